-- How far rounding moves a fraction: at most by 2 ^ -24 of itself, where binary32 keeps all its digits. Over whole numbers, in units of the
-- smallest value, 2 ^ -149. Assumes nothing.
use mathlib.Core.Path.{◌≡◌, sym, ap, ◌∙◌, subst}
use Prim.Native.Nat.{ℕ, zero, suc, ◌+◌, ◌-◌, ◌*◌, ◌/◌, ◌%◌, ◌^◌, ◌≤◌, ◌<◌, compare, Ordering}
use native.Mathlib.Nat.{le_trans, le_of_eq, mul_comm, mul_assoc, mul_left_comm, mul-pos, div-add-mod', mod-lt, le-div_iff_mul-le}
use native.Mathlib.Omega.{arith}
use mathlib.Core.Bool.{not}
use lib.Dec.{T, is_le, compare_is_eq, leb→le, nleb→lt, eqb→eq, lit<}
use lib.Pow.{pow-add, pow_pos}
use lib.Ieee.{binary32, prec, low, size, nearest}
use lib.Ieee.Digits.{size_reaches}
use lib.Ieee.Nearest.{closest}
use lib.Ieee.Order.{drop, kept}
use lib.Ieee.Scale.{grid}

-- x and n are at most h apart
pub record Within (x n h : ℕ) : Type 0 where
  pub above : x ≤ n + h
  pub below : n ≤ x + h

-- ---- to the nearest whole number: at most half a unit away
near : (w r u : ℕ) (o : Ordering) → r < u → (T (is_le o) → r * 2 ≤ u) → (T (not (is_le o)) → u < r * 2) → (T (compare_is_eq o) → r * 2 ≡ u) → Within (nearest w o * u * 2) ((w * u + r) * 2) u
near w r u Ordering.lt h l g e = let a = l tt in record { above = omega arith; below = omega arith }
near w r u Ordering.eq h l g e = to_even (w % 2) (e tt) (omega arith)
  where
    to_even : (p : ℕ) → r * 2 ≡ u → p < 2 → Within ((w + p) * u * 2) ((w * u + r) * 2) u
    to_even zero a b = record { above = omega arith; below = omega arith }
    to_even (suc zero) a b = record { above = omega arith; below = omega arith }
    to_even (suc (suc p)) a b = absurd (omega arith)
near w r u Ordering.gt h l g e = let a = g tt in record { above = omega arith; below = omega arith }

closest_near : (n u : ℕ) → 0 < u → Within (closest n u * u * 2) (n * 2) u
closest_near n u h =
    subst (λ (z : ℕ). Within (closest n u * u * 2) (z * 2) u) (div-add-mod' n u)
    (near (n / u) (n % u) u (compare (n % u * 2) u) (mod-lt n h) (leb→le (n % u * 2) u) (nleb→lt (n % u * 2) u) (eqb→eq (n % u * 2) u))

-- ---- where all p digits are kept, the unit is at most 2 ^ -(p - 1) of the fraction
unit_small : (p n c : ℕ) → 0 < p → 0 < c → p ≤ size (n / c) → 2 ^ (p - 1) * (c * 2 ^ drop p n c) ≤ n
unit_small p n c P C h =
    let z = size (n / c) in
    let lead : 2 ^ (p - 1 + drop p n c) ≤ n / c = size_reaches (n / c) (p - 1 + drop p n c) (omega arith) in
    let whole : 2 ^ (p - 1 + drop p n c) * c ≤ n = (le-div_iff_mul-le C).0 lead in
    le_trans (le_of_eq (mul_left_comm (2 ^ (p - 1)) c (2 ^ drop p n c) ∙ mul_comm c (2 ^ (p - 1) * 2 ^ drop p n c) ∙ ap (λ (x : ℕ). x * c) (sym (pow-add 2 (p - 1) (drop p n c))))) whole

-- ---- the law: a / c rounded is g * 2 ^ -149, and |g × c - n| × 2 ^ 24 is at most n, where a / c is n / c of these units
pub rounded_near : (a c : ℕ) → 0 < c → prec binary32 ≤ size (a * 2 ^ low binary32 / c)
    → Within (grid binary32 a c * c * 2 ^ 24) (a * 2 ^ low binary32 * 2 ^ 24) (a * 2 ^ low binary32)
rounded_near a c C h = within (a * 2 ^ low binary32) h
  where
    within : (n : ℕ) → 24 ≤ size (n / c) → Within (kept 24 n c * 2 ^ drop 24 n c * c * 2 ^ 24) (n * 2 ^ 24) n
    within n h =
        let u = c * 2 ^ drop 24 n c in
        let q = kept 24 n c in
        let e : q * 2 ^ drop 24 n c * c ≡ q * u = mul_assoc q (2 ^ drop 24 n c) c ∙ ap (λ (x : ℕ). q * x) (mul_comm (2 ^ drop 24 n c) c) in
        let s : 2 ^ 23 * u ≤ n = unit_small 24 n c (lit< tt) C h in
        let t : Within (q * u * 2) (n * 2) u = closest_near n u (mul-pos C (pow_pos (drop 24 n c))) in
        let above = t.above in
        let below = t.below in
        record { above = omega arith; below = omega arith }
