-- Bounds of the number that answers make. Assumes nothing.
use mathlib.Core.Path.{◌≡◌, refl}
use mathlib.Core.Bool.{Bool, true, false}
use mathlib.Core.List.{List, [], ◌∷◌}
use Prim.Native.Nat.{ℕ, ◌+◌, ◌*◌, ◌^◌, ◌≤◌, ◌<◌}
use native.Mathlib.Nat.{pow-succ'}
use native.Mathlib.Omega.{arith}
use lib.Dec.{lit<}
use lib.ListN.{length}
use mir.Val.{bool_byte}
use Rattle.cube.specs.Bits.{bit_of, number_of}

pub bit_bound : (b : Bool) → (bool_byte b ≤ 1) × (bool_byte b ≡ bit_of b)
bit_bound true = (omega arith, refl)
bit_bound false = (omega arith, refl)

pub three_bound : (b0 b1 b2 : Bool) (k l m : ℕ) → (k ≤ 1) × (k ≡ bit_of b0) → (l ≤ 1) × (l ≡ bit_of b1) → (m ≤ 1) × (m ≡ bit_of b2)
    → (k + 2 * l + 4 * m ≤ 7) × (k + 2 * l + 4 * m ≡ number_of (b0 ∷ b1 ∷ b2 ∷ []))
unfolding number_of
three_bound b0 b1 b2 k l m (h, e) (i, f) (j, g) = (omega arith, omega (arith, e, f, g))

pub number_below : (bs : List Bool) → number_of bs < 2 ^ length bs
unfolding number_of
number_below [] = lit< tt
number_below (b ∷ bs) = let h = number_below bs in let i = one_or_none b in omega (arith, h, i, pow-succ' 2 (length bs))
  where
    one_or_none : (b : Bool) → bit_of b ≤ 1
    one_or_none true = omega arith
    one_or_none false = omega arith
