-- x - x is +0 where x is finite and a NaN elsewhere, and sums of such differences tell whether all are finite. Assumes nothing.
use mathlib.Core.Path.{◌≡◌, refl, sym, ◌∙◌}
use mathlib.Core.Bool.{Bool, true, false, not, ◌&&◌, cond}
use Prim.Native.Nat.{ℕ, ◌*◌, ◌<◌}
use native.Mathlib.Nat.{zero-mul, mul-pos, zero-lt-suc, sub_self}
use native.Mathlib.Omega.{arith}
use borrow.Author.Tests.{le-ltb}
use lib.Dec.{ltb}
use lib.IntN.{pos}
use lib.Ieee.{Float, nan, inf, fin, binary32, up, down, round, sum, add, sub, eq, of_bits}
use lib.Ieee.Fits.{down_pos}
use lib.Ieee.Scale.{finite, round_same}
use Rattle.binary32.specs.Numbers.{plus_zero}

-- nothing rounds to a zero of its sign
pub round_nought : (s : Bool) (c : ℕ) → 0 < c → round binary32 s 0 c ≡ fin s 0 (pos 0)
round_nought s c h = round_same binary32 s 0 c 0 1 h (zero-lt-suc 0) (zero-mul 1 ∙ sym (zero-mul c)) ∙ at_one s
  where
    at_one : (s : Bool) → round binary32 s 0 1 ≡ fin s 0 (pos 0)
    at_one true = unfold round in refl
    at_one false = unfold round in refl

not_less : (a : ℕ) → ltb a a ≡ false
not_less a = le-ltb a a (omega arith)

none_left : (s : Bool) (a c : ℕ) → 0 < c → sum binary32 s a (not s) a c ≡ plus_zero
unfolding sum
none_left true a c h = rw (not_less, sub_self, round_nought false c)
none_left false a c h = rw (not_less, sub_self, round_nought false c)

pub minus_itself : (x : Float) → sub binary32 x x ≡ cond (finite x) plus_zero nan
unfolding sub
minus_itself nan = refl
minus_itself (inf true) = refl
minus_itself (inf false) = refl
minus_itself (fin s m e) = none_left s (m * up e * down e) (down e * down e) (mul-pos (down_pos e) (down_pos e))

pub both_finite : (p q : Bool) → add binary32 (cond p plus_zero nan) (cond q plus_zero nan) ≡ cond (p && q) plus_zero nan
unfolding add
both_finite true true = refl
both_finite true false = refl
both_finite false q = refl

-- 0.0 in code is the float of the bits 0
pub is_nought : (p : Bool) → eq (cond p plus_zero nan) (of_bits binary32 0) ≡ p
unfolding eq of_bits
is_nought true = refl
is_nought false = refl
