-- How many binary digits a number has, from the powers of two that it lies between. Assumes nothing.
use mathlib.Core.Path.{◌≡◌, sym, subst}
use Prim.Native.Nat.{ℕ, suc, ◌+◌, ◌*◌, ◌^◌, ◌≤◌, ◌<◌}
use native.Mathlib.Nat.{lt_of_lt_of_le, lt_of_not-le, not-le_of_lt, le_antisymm, mul-le-mul_right, suc-add}
use lib.Pow.{pow-add, pow_mono, shl_lt}
use lib.Ieee.{size}
use lib.Ieee.Digits.{size-lt, size-le}

pub size_above : (n j : ℕ) → 2 ^ j ≤ n → j < size n
size_above n j h = lt_of_not-le λ (g : size n ≤ j). not-le_of_lt (lt_of_lt_of_le (size-lt n) (pow_mono g)) h

-- a number between two powers, times a power
pub shifted_ge : (q j k : ℕ) → 2 ^ j ≤ q → 2 ^ (j + k) ≤ q * 2 ^ k
shifted_ge q j k h = subst (λ (z : ℕ). z ≤ q * 2 ^ k) (sym (pow-add 2 j k)) (mul-le-mul_right (2 ^ k) h)

pub size_shifted : (q j k : ℕ) → 2 ^ j ≤ q → q < 2 ^ suc j → size (q * 2 ^ k) ≡ suc j + k
size_shifted q j k h l =
    le_antisymm (size-le (q * 2 ^ k) (suc j + k) (shl_lt (suc j) k l)) (subst (λ (z : ℕ). z ≤ size (q * 2 ^ k)) (sym (suc-add j k)) (size_above (q * 2 ^ k) (j + k) (shifted_ge q j k h)))
