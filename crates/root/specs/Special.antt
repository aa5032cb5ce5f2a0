-- The values that document 01, paragraph 'Root', names: NaN for NaN and below zero, each zero for itself, +infinity for itself; and that a NaN is always
-- written 7fc00000. Definitions only.
use Rattle.std.specs.Prelude.{◌≡◌, Bool, false, ℕ, T, pos, Float}
use Rattle.std.specs.Float.{nan, inf, fin, binary32}
use Rattle.std.specs.Float.Ieee.{lt, of_bits}
use Rattle.binary32.specs.Numbers.{plus_zero}

-- r is the root of x
pub record SpecialRoots (x r : Float) : Type 0 where
  pub not_a_number : x ≡ nan → r ≡ nan
  pub below_zero : T (lt x plus_zero) → r ≡ nan
  pub either_zero : (s : Bool) → x ≡ fin s 0 (pos 0) → r ≡ x
  pub infinite : x ≡ inf false → r ≡ x

-- r is the pattern of the root of the value with the pattern b
pub record SpecialBits (b r : ℕ) : Type 0 where
  pub not_a_number : of_bits binary32 b ≡ nan → r ≡ 0x7fc0_0000
  pub below_zero : T (lt (of_bits binary32 b) plus_zero) → r ≡ 0x7fc0_0000
  pub plus_zero : b ≡ 0 → r ≡ 0
  pub minus_zero : b ≡ 0x8000_0000 → r ≡ 0x8000_0000
  pub infinite : b ≡ 0x7f80_0000 → r ≡ 0x7f80_0000
