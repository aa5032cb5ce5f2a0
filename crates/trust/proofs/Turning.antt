-- What the code compares, against the exact sign: of four values that alternate in range the two products, each exact, tell the sign of E. Assumes nothing.
use mathlib.Core.Path.{◌≡◌, refl, sym, ap, ◌∙◌, subst}
use mathlib.Core.Logic.{inl, inr}
use mathlib.Core.Bool.{Bool, true, false, not, ◌&&◌, ◌||◌, beq}
use Prim.Native.Nat.{ℕ, ◌<◌, ◌≤◌}
use native.Mathlib.Omega.{arith}
use borrow.Author.Tests.{lt-ltb, le-ltb, ne_eqb}
use lib.Dec.{T, ltb, eqb}
use lib.IntN.{ℤ, pos, ◌*ℤ◌}
use lib.Signed.{lt_z}
use lib.Ieee.{Float, nan, inf, fin, binary32, low, of_bits, lt, le}
use lib.Ieee.Scale.{finite}
use lib.Ieee.Positive.{positive}
use mir.Syntax.{w8}
use mir.Val.{SFits, to_z, of_z}
use mir.ValLaws.{to_z-of_z}
use Rattle.std.proofs.lemmas.Bool.{cases_lt}
use Rattle.binary32.specs.Numbers.{magnitude}
use Rattle.binary32.specs.Wholes.{Exactly, whole_of}
use Rattle.binary32.proofs.Magnitudes.{sign_test, positive_above}
use Rattle.binary32.proofs.Wholes.{lt_exactly}
use Rattle.face.specs.declared.Square.{Square}
use Rattle.face.specs.Face.{is_face, is_positive}
use Rattle.face.specs.Laws.{alternate}
use Rattle.face.specs.TrueJoin.{Over, true_answer}
use Rattle.face.proofs.Decision.{Ranged, square, has_size}
use Rattle.face.proofs.Differences.{gap, gap_below, gap_above}
use Rattle.face.proofs.TrueJoin.{sizes, ac, bd, e_size, exact_sign}
use Rattle.trust.specs.Trust.{otherwise, turned_of, OverWholes}
use Rattle.trust.proofs.Products.{both}

-- ---- values that alternate in range are finite
same_finite : (x : Float) → T (positive (magnitude x)) → T (finite x)
same_finite nan p = p
same_finite (inf s) p = p
same_finite (fin s m e) p = tt

ranged_finite : {s : Bool} {x : Float} → Ranged s x → T (finite x)
ranged_finite {s} {x} r = same_finite x (has_size r)

module _ (a b c d : Float) (t : T (alternate a b c d)) where
  pub finite_a : T (finite a)
  finite_a = ranged_finite (square a b c d t).1.at_a

  pub finite_b : T (finite b)
  finite_b = ranged_finite (square a b c d t).1.at_b

  pub finite_c : T (finite c)
  finite_c = ranged_finite (square a b c d t).1.at_c

  pub finite_d : T (finite d)
  finite_d = ranged_finite (square a b c d t).1.at_d

-- ---- where E is above 0 the exact sign gives `along`, and where it is below 0 the other answer
above_zero : (r along : Bool) → (true && not (beq r along)) || (false && beq r along) ≡ true && not (beq r (beq along true))
above_zero true true = refl
above_zero true false = refl
above_zero false true = refl
above_zero false false = refl

below_zero : (r along : Bool) → (false && not (beq r along)) || (true && beq r along) ≡ true && not (beq r (beq along false))
below_zero true true = refl
below_zero true false = refl
below_zero false true = refl
below_zero false false = refl

module _ (k : ℕ) (a b c d : Float) (A B C D : ℤ) (t : T (alternate a b c d)) (o : Over k a b c d A B C D) (n : ℤ) (f : T (is_face n)) (r : Bool) where
  abbrev s : Bool
  s = (square a b c d t).0

  abbrev P : ℕ
  P = sizes A C

  abbrev Q : ℕ
  Q = sizes B D

  abbrev along : Bool
  along = beq (is_positive n) (not s)

  told : (0 < gap P Q) → otherwise n A B C D r ≡ true && not (beq r (beq along (not (ltb P Q))))
  told g = λ i. not ((ap (λ (z : ℕ). eqb z 0) (e_size k a b c d A B C D (square a b c d t).1 o) ∙ ne_eqb (gap P Q) 0 (λ z. omega (arith, z, g))) i) && not (beq r (exact_sign k a b c d A B C D (square a b c d t).1 o n f g i))

  pub by_products : (ltb Q P && not (beq r along)) || (ltb P Q && beq r along) ≡ otherwise n A B C D r
  by_products = elim (cases_lt P Q) [
    | inl l ↦
        let p = lt-ltb P Q l in
        let q = le-ltb Q P (omega arith) in
        (λ i. (q i && not (beq r along)) || (p i && beq r along)) ∙ below_zero r along ∙ ap (λ (x : Bool). true && not (beq r (beq along (not x)))) (sym p)
        ∙ sym (told (subst (λ (z : ℕ). 0 < z) (sym (gap_below P Q l)) (omega arith)))
    | inr l ↦ not_less l
  ]
    where
      not_less : Q ≤ P → (ltb Q P && not (beq r along)) || (ltb P Q && beq r along) ≡ otherwise n A B C D r
      not_less l = elim (cases_lt Q P) [
        | inl m ↦
            let p = le-ltb P Q l in
            let q = lt-ltb Q P m in
            (λ i. (q i && not (beq r along)) || (p i && beq r along)) ∙ above_zero r along ∙ ap (λ (x : Bool). true && not (beq r (beq along (not x)))) (sym p)
            ∙ sym (told (subst (λ (z : ℕ). 0 < z) (sym (gap_above P Q l)) (omega arith)))
        | inr m ↦
            let p = le-ltb P Q l in
            let q = le-ltb Q P m in
            let z : gap P Q ≡ 0 = gap_above P Q l ∙ omega arith in
            (λ i. (q i && not (beq r along)) || (p i && beq r along))
            ∙ sym (ap (λ (x : ℕ). not (eqb x 0) && not (beq r (true_answer n A B C D))) (e_size k a b c d A B C D (square a b c d t).1 o ∙ z))
      ]

-- the code's comparisons
pub by_comparison : (z : ℤ) (s : Square) (r : Bool) (f g : Float) → SFits w8 z → T (is_face z) → T (alternate s.a s.b s.c s.d) → OverWholes s
    → Exactly both f (whole_of s.a *ℤ whole_of s.c) → Exactly both g (whole_of s.b *ℤ whole_of s.d)
    → (lt g f && not (beq r (beq (lt_z (pos 0) (to_z w8 (of_z w8 z))) (le (of_bits binary32 0) s.a)))) || (lt f g && beq r (beq (lt_z (pos 0) (to_z w8 (of_z w8 z))) (le (of_bits binary32 0) s.a))) ≡ turned_of z s r
unfolding turned_of of_bits
by_comparison z s r f g h u t o ef eg =
    let q = square s.a s.b s.c s.d t in
    let A = whole_of s.a in
    let B = whole_of s.b in
    let C = whole_of s.c in
    let D = whole_of s.d in
    let fc : Exactly both f (pos (sizes A C)) = subst (Exactly both f) (ac (low binary32) s.a s.b s.c s.d A B C D q.1 o) ef in
    let gd : Exactly both g (pos (sizes B D)) = subst (Exactly both g) (bd (low binary32) s.a s.b s.c s.d A B C D q.1 o) eg in
    let sign : le (of_bits binary32 0) s.a ≡ not q.0 = sign_test s.a (positive_above (magnitude s.a) (has_size q.1.at_a)) ∙ ap not q.1.at_a.sign in
    let first : lt g f ≡ ltb (sizes B D) (sizes A C) = lt_exactly both g f (pos (sizes B D)) (pos (sizes A C)) gd fc in
    let second : lt f g ≡ ltb (sizes A C) (sizes B D) = lt_exactly both f g (pos (sizes A C)) (pos (sizes B D)) fc gd in
    rw (to_z-of_z w8 z h, sign, first, second) (by_products (low binary32) s.a s.b s.c s.d A B C D t o z u r)
