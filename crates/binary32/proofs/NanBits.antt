-- Which patterns are a NaN's: those whose exponent and digits, taken together, are above an infinity's. Assumes nothing.
use mathlib.Core.Path.{◌≡◌, refl, sym, ◌∙◌}
use mathlib.Core.Bool.{true, not}
use Prim.Native.Nat.{ℕ, ◌%◌, ◌≤◌, ◌<◌}
use lib.Dec.{T}
use borrow.Author.Tests.{lt-ltb, le-ltb}
use lib.Ieee.{Float, nan, inf, fin, binary32, of_bits, is_nan, nan_bits}
use lib.Ieee.Bits.{nan_bits_is, nan_bits_above}

nan_only : (x : Float) → is_nan x ≡ true → x ≡ nan
unfolding is_nan
nan_only nan h = refl
nan_only (inf s) h = cc
nan_only (fin s m e) h = cc

pub above_inf : (b : ℕ) → 0x7f80_0000 < b % 0x8000_0000 → nan ≡ of_bits binary32 b
above_inf b h = sym (nan_only (of_bits binary32 b) (sym (nan_bits_is binary32 b) ∙ nan_bits_above binary32 b ∙ lt-ltb _ _ h))

pub not_above_inf : (b : ℕ) → b % 0x8000_0000 ≤ 0x7f80_0000 → T (not (nan_bits binary32 b))
not_above_inf b h = rw (nan_bits_above, le-ltb _ _ h) tt
