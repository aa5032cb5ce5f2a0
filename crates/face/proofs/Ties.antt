-- The two ways out of the face test's code: a tie, and the product's sign. Assumes nothing.
use mathlib.Core.Path.{◌≡◌, refl, ◌∙◌}
use mathlib.Core.Bool.{true, false}
use lib.IntN.{ℤ, pos}
use lib.Signed.{lt_z}
use lib.Ieee.{Float, nan, inf, fin, binary32, sub, mul, lt, le, of_bits, of_int}
use mir.Syntax.{w8}
use mir.Val.{SFits, to_z, of_z}
use mir.ValLaws.{to_z-of_z}
use Rattle.std.specs.Float.{float_with_sign}
use Rattle.binary32.specs.Numbers.{magnitude, f32}
use Rattle.face.specs.Face.{rule}

by_magnitude : (v : Float) → float_with_sign false v ≡ magnitude v
unfolding float_with_sign
by_magnitude nan = refl
by_magnitude (inf s) = refl
by_magnitude (fin s m e) = refl

-- 872415232 is the pattern of 2^-23
module _ (z : ℤ) (a b c d v : Float) (f : SFits w8 z) (ev : v ≡ float_with_sign false (sub binary32 (mul binary32 a c) (mul binary32 b d))) where
  abbrev val : Float
  val = sub binary32 (mul binary32 a c) (mul binary32 b d)

  size : v ≡ magnitude val
  size = ev ∙ by_magnitude val

  pub by_tie : lt v (of_bits binary32 872415232) ≡ true → lt_z (pos 0) (to_z w8 (of_z w8 z)) ≡ rule f32 z a b c d
  unfolding rule of_bits
  by_tie h = rw (← size, h, to_z-of_z w8 z f)

  pub by_sign : lt v (of_bits binary32 872415232) ≡ false → le (of_bits binary32 0) (mul binary32 (mul binary32 (of_int binary32 (to_z w8 (of_z w8 z))) a) val) ≡ rule f32 z a b c d
  unfolding rule of_bits
  by_sign h = rw (← size, h, to_z-of_z w8 z f)
