-- `FaceLaws` of the rule: exact tie, NaN, and the symmetry of the signs. Assumes nothing.
use mathlib.Core.Path.{◌≡◌, refl, sym, ap, ◌∙◌}
use mathlib.Core.Bool.{Bool, true, false, not, beq}
use Prim.Native.Nat.{zero, suc}
use native.Mathlib.Nat.{zero-lt-suc}
use borrow.Author.Tests.{lt-ltb}
use lib.Dec.{T}
use lib.IntN.{ℤ, pos, negsuc, neg_ℤ}
use lib.Ieee.{Float, nan, binary32, mul, lt, le, of_int}
use lib.Ieee.Bits.{is_true}
use Rattle.binary32.specs.Numbers.{f32, magnitude, epsilon}
use Rattle.binary32.proofs.Magnitudes.{mul_nan}
use Rattle.cube.specs.declared.Cube.{Cube}
use Rattle.face.specs.Face.{rule, face_by, face_of, is_face, is_positive}
use Rattle.face.specs.Laws.{alternate, FaceLawsAt}
use Rattle.face.proofs.Decision.{val, kept, square, turned, decided, kept_turned}

pub exact_tie : (n : ℤ) (a b c d : Float) → T (lt (magnitude (val a b c d)) epsilon) → rule f32 n a b c d ≡ is_positive n
unfolding rule
exact_tie n a b c d t = rw (is_true (lt (magnitude (val a b c d)) epsilon) t)

pub at_nan : (n : ℤ) (a b c d : Float) → val a b c d ≡ nan → rule f32 n a b c d ≡ false
unfolding rule lt le
at_nan n a b c d e = rw (e, mul_nan binary32 (mul binary32 (of_int binary32 n) a))

pub symmetric : (n : ℤ) (a b c d : Float) → T (is_face n) → T (alternate a b c d) → rule f32 n a b c d ≡ rule f32 n d c b a
symmetric n a b c d f t =
    let s = (square a b c d t).1 in
    decided n f a b c d s ∙ ap (beq (is_positive n)) (kept_turned a b c d s) ∙ sym (decided n f d c b a (turned s))

-- ---- the number with the other sign
beq_not : (p s : Bool) → beq p s ≡ not (beq (not p) s)
beq_not true true = refl
beq_not true false = refl
beq_not false true = refl
beq_not false false = refl

pub other_face : (n : ℤ) → T (is_face n) → T (is_face (neg_ℤ n)) × (is_positive (neg_ℤ n) ≡ not (is_positive n))
other_face (pos zero) t = absurd t
other_face (pos (suc m)) t = (t, ap not (sym (lt-ltb 0 (suc m) (zero-lt-suc m))))
other_face (negsuc m) t = (t, lt-ltb 0 (suc m) (zero-lt-suc m))

pub opposed : (n : ℤ) (a b c d : Float) → T (is_face n) → T (alternate a b c d) → rule f32 n a b c d ≡ not (rule f32 (neg_ℤ n) a b c d)
opposed n a b c d f t =
    let s = (square a b c d t).1 in
    let o = other_face n f in
    decided n f a b c d s ∙ beq_not (is_positive n) (kept a b c d) ∙ ap (λ (p : Bool). not (beq p (kept a b c d))) (sym o.1) ∙ ap not (sym (decided (neg_ℤ n) o.0 a b c d s))

pub face_laws : (q : Cube) (n : ℤ) (r : Bool) → r ≡ face_of q n → FaceLawsAt q n r
unfolding face_of face_by
face_laws q n r e = record {
  tie = λ t. e ∙ exact_tie n _ _ _ _ t;
  not_a_number = λ t. e ∙ at_nan n _ _ _ _ t;
  symmetry = λ f t. e ∙ symmetric n _ _ _ _ f t;
  against = λ f t. e ∙ opposed n _ _ _ _ f t;
}
