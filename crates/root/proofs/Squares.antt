-- Squares of whole numbers: of sums and of products, and their order. Assumes nothing.
use mathlib.Core.Path.{◌≡◌, refl, sym, ap, ◌∙◌, subst}
use Prim.Native.Nat.{ℕ, zero, suc, ◌+◌, ◌*◌, ◌^◌, ◌≤◌, ◌<◌}
use native.Mathlib.Nat.{le_trans, lt_of_lt_of_le, lt_of_not-le, not-le_of_lt, mul-le-mul, mul_assoc, mul_comm, mul_left_comm, mul-add, add-mul, mul-pos, pow-suc}
use lib.Pow.{pow_pos}
use native.Mathlib.Omega.{arith}
use Rattle.root.specs.Root.{square}

pub square_add : (a b : ℕ) → square (a + b) ≡ square a + 2 * (a * b) + square b
square_add a b =
    let e : (a + b) * (a + b) ≡ a * a + b * a + (a * b + b * b) = simp (mul-add, add-mul) in
    let f : b * a ≡ a * b = mul_comm b a in
    omega arith

pub square_mul : (a b : ℕ) → square (a * b) ≡ square a * square b
square_mul a b = simp (mul_assoc, mul_left_comm)

-- the square of 2 * q + 1
pub square_odd : (q : ℕ) → square (2 * q + 1) ≡ 4 * square q + 4 * q + 1
square_odd q =
    let e : square (2 * q) ≡ 4 * square q = square_mul 2 q in
    omega (arith, square_add (2 * q) 1)

pub square_le : {a b : ℕ} → a ≤ b → square a ≤ square b
square_le h = mul-le-mul h h

pub square_lt : {a b : ℕ} → a < b → square a < square b
square_lt {a} {b} h = lt_of_lt_of_le (omega (arith, square_add a 1)) (square_le {a = a + 1} {b = b} (omega arith))

-- what has the smaller square is smaller
pub root_lt : {a b n : ℕ} → square a ≤ n → n < square b → a < b
root_lt h k = lt_of_not-le λ g. not-le_of_lt k (le_trans (square_le g) h)

pub square_pow : (k : ℕ) → 4 ^ k ≡ square (2 ^ k)
square_pow zero = refl
square_pow (suc k) = pow-suc 4 k ∙ ap (λ (z : ℕ). z * 4) (square_pow k) ∙ sym (square_mul (2 ^ k) 2) ∙ ap square (sym (pow-suc 2 k))

-- a square, times a power of four
pub square_shifted : (q k : ℕ) → square (q * 2 ^ k) ≡ square q * 4 ^ k
square_shifted q k = square_mul q (2 ^ k) ∙ ap (λ (z : ℕ). square q * z) (sym (square_pow k))

pub four_pos : (k : ℕ) → 0 < 4 ^ k
four_pos k = subst (λ (z : ℕ). 0 < z) (sym (square_pow k)) (mul-pos (pow_pos k) (pow_pos k))
