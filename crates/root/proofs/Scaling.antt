-- One number n * 4 ^ k, or one power of two, written in two ways. Assumes nothing.
use mathlib.Core.Path.{◌≡◌, sym, ap, ◌∙◌}
use Prim.Native.Nat.{ℕ, zero, suc, ◌+◌, ◌-◌, ◌*◌, ◌^◌, ◌≤◌, ◌<◌}
use native.Mathlib.Nat.{mul_assoc, mul_comm, pow-succ', lt_irrefl}
use native.Mathlib.Numerals.{sub-one}
use native.Mathlib.Omega.{arith}
use lib.Pow.{pow-add}
use Rattle.root.proofs.Squares.{square_pow}

-- a factor of four moves from the power to the number
pub fours : (n k : ℕ) → 0 < k → n * 4 * 4 ^ (k - 1) ≡ n * 4 ^ k
fours n zero h = absurd (lt_irrefl 0 h)
fours n (suc j) h = ap (λ (z : ℕ). n * 4 * 4 ^ z) (sub-one (suc j)) ∙ mul_assoc n 4 (4 ^ j) ∙ ap (λ (z : ℕ). n * z) (sym (pow-succ' 4 j))

-- where n alone is too small, a factor of four is left in the power
pub four_left : (n k : ℕ) → n < 2 ^ 46 → 2 ^ 48 ≤ n * 4 ^ k → 0 < k
four_left n zero h l = omega arith
four_left n (suc j) h l = omega arith

pub subnormal_scale : (t : ℕ) → t * 2 ^ 0 * 2 ^ 149 ≡ 2 * t * 4 ^ 74
subnormal_scale t =
    let e : t * 1 ≡ t = omega arith in
    ap (λ (z : ℕ). z * 2 ^ 149) e ∙ sym (mul_assoc t 2 (4 ^ 74)) ∙ ap (λ (z : ℕ). z * 4 ^ 74) (mul_comm t 2)

-- 2 ^ x units, as a root of two to the w and fours
pub normal_scale : (m x w j : ℕ) → x + 149 ≡ w + (j + j) → m * 2 ^ x * 2 ^ 149 ≡ m * 2 ^ w * 4 ^ j
normal_scale m x w j e =
    let f : 2 ^ x * 2 ^ 149 ≡ 2 ^ w * 4 ^ j = sym (pow-add 2 x 149) ∙ ap (λ (z : ℕ). 2 ^ z) e ∙ pow-add 2 w (j + j) ∙ ap (λ (z : ℕ). 2 ^ w * z) (pow-add 2 j j ∙ sym (square_pow j)) in
    mul_assoc m (2 ^ x) (2 ^ 149) ∙ ap (λ (z : ℕ). m * z) f ∙ sym (mul_assoc m (2 ^ w) (4 ^ j))
