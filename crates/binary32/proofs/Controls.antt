-- That the definitions say something, by computation: the range at its ends, and values as whole numbers over 2 ^ 149. Values are written as bits. Assumes nothing.
use mathlib.Core.Path.{◌≡◌, refl}
use mathlib.Core.Bool.{true, false}
use mathlib.Core.List.{[], ◌∷◌, map}
use Prim.Native.Nat.{ℕ, ◌*◌, ◌^◌}
use lib.IntN.{pos, neg_ℤ}
use lib.Ieee.{binary32, of_bits, lt, eq, le}
use Rattle.binary32.specs.Range.{in_range}
use Rattle.binary32.specs.Wholes.{whole_of}

-- one step below 1e-6 and 1e-6; 2 ^ 63 and one step above; 1, -1, a zero, an infinity and a NaN
range_ends : map (λ (b : ℕ). in_range (of_bits binary32 b)) (0x358637bc ∷ 0x358637bd ∷ 0x5f000000 ∷ 0x5f000001 ∷ 0x3f800000 ∷ 0xbf800000 ∷ 0 ∷ 0x7f800000 ∷ 0x7fc00000 ∷ [])
    ≡ false ∷ true ∷ true ∷ false ∷ true ∷ false ∷ false ∷ false ∷ false ∷ []
unfolding in_range of_bits lt eq le
range_ends = refl

-- the zeros, the smallest value with either sign, the smallest normal one, 1, -3, 2 ^ 63 and the largest
wholes : map (λ (b : ℕ). whole_of (of_bits binary32 b)) (0 ∷ 0x80000000 ∷ 1 ∷ 0x80000001 ∷ 0x00800000 ∷ 0x3f800000 ∷ 0xc0400000 ∷ 0x5f000000 ∷ 0x7f7fffff ∷ [])
    ≡ pos 0 ∷ pos 0 ∷ pos 1 ∷ neg_ℤ (pos 1) ∷ pos (2 ^ 23) ∷ pos (2 ^ 149) ∷ neg_ℤ (pos (3 * 2 ^ 149)) ∷ pos (2 ^ 212) ∷ pos (16777215 * 2 ^ 253) ∷ []
unfolding whole_of of_bits
wholes = refl
