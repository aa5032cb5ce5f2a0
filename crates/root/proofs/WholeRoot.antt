-- `whole_root n` is the largest number whose square is at most n, and the only one whose square is at most n while the next one's is above. Assumes nothing.
use mathlib.Core.Path.{◌≡◌, ap, ◌∙◌, subst}
use mathlib.Core.Bool.{Bool, true, false, not, cond}
use Prim.Native.Nat.{ℕ, zero, suc, ◌+◌, ◌*◌, ◌/◌, ◌^◌, ◌≤◌, ◌<◌}
use native.Mathlib.Nat.{lt_of_lt_of_le, pow-suc, pow-le-pow_left, div-lt_iff_lt-mul}
use native.Mathlib.Omega.{arith}
use lib.Dec.{T, leb, leb→le, nleb→lt, lit≤}
use lib.Ieee.{size}
use lib.Ieee.Digits.{size-lt}
use Rattle.root.specs.Root.{square, root_within, whole_root}
use Rattle.root.proofs.Squares.{square_mul, root_lt}

abbrev pub IsRoot : ℕ → ℕ → Type 0
IsRoot n q = (square q ≤ n) × (n < square (q + 1))

pub root_unique : (n p q : ℕ) → IsRoot n p → IsRoot n q → p ≡ q
root_unique n p q h k =
    let a : p < q + 1 = root_lt h.0 k.1 in
    let b : q < p + 1 = root_lt k.0 h.1 in
    omega arith

-- one more digit, in base four of n and in base two of its root
one_digit : (n q : ℕ) → IsRoot (n / 4) q → IsRoot n (cond (leb (square (2 * q + 1)) n) (2 * q + 1) (2 * q))
one_digit n q h = go (leb (square (2 * q + 1)) n) (leb→le (square (2 * q + 1)) n) (nleb→lt (square (2 * q + 1)) n)
  where
    go : (b : Bool) → (T b → square (2 * q + 1) ≤ n) → (T (not b) → n < square (2 * q + 1)) → IsRoot n (cond b (2 * q + 1) (2 * q))
    go true y z =
        let e : 2 * q + 1 + 1 ≡ 2 * (q + 1) = omega arith in
        let f : square (2 * q + 1 + 1) ≡ 4 * square (q + 1) = ap square e ∙ square_mul 2 (q + 1) in
        (y tt, omega arith)
    go false y z = (omega (arith, square_mul 2 q), z tt)

within_root : (d n : ℕ) → n < 4 ^ d → IsRoot n (root_within d n)
unfolding root_within
within_root zero n h = omega arith
within_root (suc d) n h = one_digit n (root_within d (n / 4)) (within_root d (n / 4) ((div-lt_iff_lt-mul (lit≤ tt)).1 (subst (λ (z : ℕ). n < z) (pow-suc 4 d) h)))

-- the law: a root's square is at most n, and the next number's is above n
pub whole_root_lem : (n : ℕ) → IsRoot n (whole_root n)
unfolding whole_root
whole_root_lem n = within_root (size n) n (lt_of_lt_of_le (size-lt n) (pow-le-pow_left (lit≤ tt) (size n)))

pub root_is : (n q : ℕ) → IsRoot n q → q ≡ whole_root n
root_is n q h = root_unique n q (whole_root n) h (whole_root_lem n)
