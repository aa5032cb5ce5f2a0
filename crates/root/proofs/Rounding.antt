-- The rounded root of n * 4 ^ k, for an n from 2 ^ 46 up to 2 ^ 48: the root of n has 24 digits, and it is moved up by one where n is past the middle.
-- Assumes nothing.
use mathlib.Core.Path.{◌≡◌, sym, ap, ◌∙◌, subst}
use mathlib.Core.Bool.{false}
use Prim.Native.Nat.{ℕ, suc, ◌+◌, ◌-◌, ◌*◌, ◌/◌, ◌^◌, ◌≤◌, ◌<◌, compare, Ordering}
use native.Mathlib.Nat.{le_trans, le_of_eq, lt_of_le_of_lt, lt_of_lt_of_le, mul_assoc, mul-le-mul_right, mul-lt-mul_of_pos_right, div-eq_of_lt-le}
use native.Mathlib.Omega.{arith}
use lib.Pow.{pow-add, pow-lt}
use lib.Ieee.{Float, binary32, size, nearest, units, to_bits}
use lib.Ieee.Digits.{size-le}
use lib.Ieee.Exact.{units_val}
use Rattle.binary32.proofs.Sizes.{size_above, shifted_ge}
use Rattle.binary32.proofs.Compares.{compare_lt, compare_gt}
use Rattle.binary32.proofs.Values.{to_bits_value, pattern_carried}
use Rattle.root.specs.Root.{square, nearest_step, whole_root, root_units}
use Rattle.root.proofs.Squares.{square_odd, square_shifted, four_pos, root_lt}
use Rattle.root.proofs.WholeRoot.{IsRoot, whole_root_lem}

-- `root_units`, from its whole root and its k on
abbrev kept : ℕ → ℕ → ℕ → Float
kept n r k = units binary32 false (nearest_step n (r / 2 ^ k) k) k

module _ (n k q : ℕ) (lo : 2 ^ 46 ≤ n) (hi : n < 2 ^ 48) (is : q ≡ whole_root n) where
  root : IsRoot n q
  root = subst (λ (z : ℕ). IsRoot n z) (sym is) (whole_root_lem n)

  pub root_le : square q ≤ n
  root_le = root.0

  pub root_ge : 2 ^ 23 ≤ q
  root_ge =
      let h : 2 ^ 23 < q + 1 = root_lt {n = n} lo root.1 in
      omega arith

  pub root_below : q < 2 ^ 24
  root_below = root_lt {n = n} root.0 hi

  abbrev r : ℕ
  r = whole_root (n * 4 ^ k)

  -- the root of n * 4 ^ k starts with the digits of the root of n
  digits_low : q * 2 ^ k ≤ r
  digits_low =
      let h : q * 2 ^ k < r + 1 = root_lt {n = n * 4 ^ k} (le_trans (le_of_eq (square_shifted q k)) (mul-le-mul_right (4 ^ k) root.0)) (whole_root_lem (n * 4 ^ k)).1 in
      omega arith

  digits_high : r < (q + 1) * 2 ^ k
  digits_high =
      root_lt {n = n * 4 ^ k} (whole_root_lem (n * 4 ^ k)).0
      (lt_of_lt_of_le (mul-lt-mul_of_pos_right root.1 (four_pos k)) (le_of_eq (sym (square_shifted (q + 1) k))))

  same_digits : r / 2 ^ k ≡ q
  same_digits = div-eq_of_lt-le (2 ^ k) digits_low digits_high

  dropped : size r - 24 ≡ k
  dropped =
      let h : size r ≤ 24 + k = size-le r (24 + k) (lt_of_lt_of_le digits_high (le_trans (mul-le-mul_right (2 ^ k) root_below_suc) (le_of_eq (sym (pow-add 2 24 k))))) in
      let l : 23 + k < size r = size_above r (23 + k) (le_trans (shifted_ge q 23 k root_ge) digits_low) in
      omega arith
    where
      root_below_suc : q + 1 ≤ 2 ^ 24
      root_below_suc = omega (arith, root_below)

  rounds : (o : Ordering) → compare (4 * (n * 4 ^ k)) (square ((2 * q + 1) * 2 ^ k)) ≡ o → root_units (n * 4 ^ k) ≡ units binary32 false (nearest q o) k
  unfolding root_units
  rounds o e =
      ap (kept (n * 4 ^ k) r) dropped
      ∙ ap (λ (z : ℕ). units binary32 false (nearest_step (n * 4 ^ k) z k) k) same_digits
      ∙ ap (λ (z : Ordering). units binary32 false (nearest q z) k) e

  -- 4 * n against the odd square: they are never equal
  middle : square ((2 * q + 1) * 2 ^ k) ≡ square (2 * q + 1) * 4 ^ k
  middle = square_shifted (2 * q + 1) k

  stays : n ≤ square q + q → root_units (n * 4 ^ k) ≡ units binary32 false q k
  stays h =
      let l : 4 * n < square (2 * q + 1) = omega (arith, square_odd q) in
      rounds Ordering.lt (compare_lt (4 * (n * 4 ^ k)) (square ((2 * q + 1) * 2 ^ k))
      (subst (λ (z : ℕ). z < square ((2 * q + 1) * 2 ^ k)) (mul_assoc 4 n (4 ^ k)) (subst (λ (z : ℕ). 4 * n * 4 ^ k < z) (sym middle) (mul-lt-mul_of_pos_right l (four_pos k)))))

  moves : square q + q < n → root_units (n * 4 ^ k) ≡ units binary32 false (suc q) k
  moves h =
      let l : square (2 * q + 1) < 4 * n = omega (arith, square_odd q) in
      rounds Ordering.gt (compare_gt (4 * (n * 4 ^ k)) (square ((2 * q + 1) * 2 ^ k))
      (subst (λ (z : ℕ). square ((2 * q + 1) * 2 ^ k) < z) (mul_assoc 4 n (4 ^ k)) (subst (λ (z : ℕ). z < 4 * n * 4 ^ k) (sym middle) (mul-lt-mul_of_pos_right l (four_pos k)))))

-- the pattern of q * 2 ^ k units
written : (q k : ℕ) → 2 ^ 23 ≤ q → q ≤ 2 ^ 24 → k < 192 → to_bits binary32 (units binary32 false q k) ≡ k * 2 ^ 23 + q
written q k h l s =
    to_bits_value (units binary32 false q k) (q * 2 ^ k) (units_val binary32 false q k (lt_of_le_of_lt (mul-le-mul_right (2 ^ k) l) (lt_of_le_of_lt (le_of_eq (sym (pow-add 2 24 k))) (pow-lt under))))
    ∙ pattern_carried q k h l
  where
    under : 24 + k < 277
    under = omega arith

module _ (n k q : ℕ) (lo : 2 ^ 46 ≤ n) (hi : n < 2 ^ 48) (s : k < 192) (is : q ≡ whole_root n) where
  pub stays_bits : n ≤ square q + q → k * 2 ^ 23 + q ≡ to_bits binary32 (root_units (n * 4 ^ k))
  stays_bits h = sym (ap (to_bits binary32) (stays n k q lo hi is h) ∙ written q k (root_ge n k q lo hi is) (omega (arith, root_below n k q lo hi is)) s)

  pub moves_bits : square q + q < n → k * 2 ^ 23 + q + 1 ≡ to_bits binary32 (root_units (n * 4 ^ k))
  moves_bits h =
      let e = ap (to_bits binary32) (moves n k q lo hi is h) ∙ written (suc q) k (omega (arith, root_ge n k q lo hi is)) (root_below n k q lo hi is) s in
      omega (arith, e)
