-- Finite values that are equal as numbers, sign included, multiply alike, however they are written. Assumes nothing.
use mathlib.Core.Path.{◌≡◌, refl, ◌∙◌}
use mathlib.Core.Bool.{Bool, true, false, ◌||◌, beq}
use Prim.Native.Nat.{ℕ, ◌*◌, ◌<◌}
use native.Mathlib.Nat.{mul-pos, mul-mul-mul_comm}
use native.Mathlib.Omega.{arith}
use lib.Dec.{T, eqb, ltb→lt, eqb→eq}
use lib.Ieee.{Float, nan, inf, fin, Format, up, down, unlike, round, mul, eq}
use lib.Ieee.Fits.{and_l, and_r, up_pos, down_pos}
use lib.Ieee.Positive.{positive}
use lib.Ieee.Scale.{round_same, finite}
use Rattle.binary32.specs.Numbers.{magnitude}

abbrev pub Same : Float → Float → Type 0
Same nan y = ⊥
Same (inf s) y = ⊥
Same (fin s m e) nan = ⊥
Same (fin s m e) (inf t) = ⊥
Same (fin s m e) (fin t n d) = (s ≡ t) × (m * up e * down d ≡ n * up d * down e)

pub same_refl : (x : Float) → T (finite x) → Same x x
same_refl nan h = absurd h
same_refl (inf s) h = absurd h
same_refl (fin s m e) h = (refl, refl)

sign_of : (s t : Bool) (a : ℕ) → 0 < a → T (beq s t || eqb a 0) → s ≡ t
sign_of true true a h t = refl
sign_of true false a h t = let z = eqb→eq a 0 t in absurd (omega arith)
sign_of false true a h t = let z = eqb→eq a 0 t in absurd (omega arith)
sign_of false false a h t = refl

-- what compares equal to a value that is neither zero nor infinite is the same
pub eq→same : (x y : Float) → T (positive (magnitude x)) → T (eq x y) → Same x y
unfolding eq
eq→same nan y p h = absurd p
eq→same (inf s) y p h = absurd p
eq→same (fin s m e) nan p h = absurd h
eq→same (fin s m e) (inf t) p h = absurd h
eq→same (fin s m e) (fin t n d) p h =
    let a = m * up e * down d in
    let b = n * up d * down e in (
      sign_of s t a (mul-pos (mul-pos (ltb→lt 0 m p) (up_pos e)) (down_pos d)) (and_r (eqb a b) (beq s t || eqb a 0) h),
      eqb→eq a b (and_l (eqb a b) (beq s t || eqb a 0) h),
    )

pub mul_same : (f : Format) (x x' y y' : Float) → Same x x' → Same y y' → mul f x y ≡ mul f x' y'
unfolding mul
mul_same f nan x' y y' p q = absurd p
mul_same f (inf s) x' y y' p q = absurd p
mul_same f (fin s m e) nan y y' p q = absurd p
mul_same f (fin s m e) (inf s') y y' p q = absurd p
mul_same f (fin s m e) (fin s' m' e') nan y' p q = absurd q
mul_same f (fin s m e) (fin s' m' e') (inf t) y' p q = absurd q
mul_same f (fin s m e) (fin s' m' e') (fin t n d) nan p q = absurd q
mul_same f (fin s m e) (fin s' m' e') (fin t n d) (inf t') p q = absurd q
mul_same f (fin s m e) (fin s' m' e') (fin t n d) (fin t' n' d') p q =
    (λ i. round f (unlike (p.0 i) (q.0 i)) (m * up e * (n * up d)) (down e * down d))
    ∙ round_same f (unlike s' t') (m * up e * (n * up d)) (down e * down d) (m' * up e' * (n' * up d')) (down e' * down d') (mul-pos (down_pos e) (down_pos d)) (mul-pos (down_pos e') (down_pos d'))
    (mul-mul-mul_comm (m * up e) (n * up d) (down e') (down d')
    ∙ (λ i. p.1 i * q.1 i)
    ∙ mul-mul-mul_comm (m' * up e') (down e) (n' * up d') (down d))
