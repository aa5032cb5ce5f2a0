-- The rounded root is nearer to the root than any other value of binary32, by squares of whole numbers. Assumes nothing.
-- `no_tie`: the root of a value of 24 digits is never in the middle of two numbers of 24 digits. `Near`: so it lies within half a unit of the rounded one,
-- strictly. `nearer`: and any other value is a unit away, or lies in the denser grid below 2 ^ 23 units, where the rounded root is the root cut off.
use mathlib.Core.Path.{◌≡◌, sym, ap, ◌∙◌, subst}
use mathlib.Core.Bool.{false}
use mathlib.Core.Logic.{⊎_elim}
use Prim.Native.Nat.{ℕ, zero, suc, ◌+◌, ◌-◌, ◌*◌, ◌/◌, ◌%◌, ◌^◌, ◌≤◌, ◌<◌, Ordering}
use native.Mathlib.Nat.{le_trans, le_of_eq, lt_of_lt_of_le, lt_of_le_of_lt, lt_of_not-le, eq-or-lt_of_le, mul_assoc, mul_left_comm, mul-one, mul-le-mul_left, mul-le-mul_right, mul-lt-mul_of_pos_right, mul-lt-mul_of_pos_left, lt_of_mul-lt-mul_right, add-mul, suc-mul, pow-suc, pow-succ', eq_of_mul-eq-mul_right, div-mul-le_self, div-lt_iff_lt-mul, le-div_iff_mul-le}
use native.Mathlib.Decide.{dec_le}
use native.Mathlib.Omega.{arith}
use lib.Dec.{T, lit≤, lit<}
use lib.Pow.{pow-add, pow_pos, pow_mono}
use lib.Ieee.{Float, binary32, size, nearest, fits}
use lib.Ieee.Digits.{size_reaches, size-le, back}
use lib.Ieee.Exact.{units_val}
use lib.Ieee.Fits.{kept-lt}
use Rattle.binary32.proofs.Sizes.{size_above}
use Rattle.binary32.proofs.Compares.{compare_lt, compare_gt}
use Rattle.binary32.proofs.Values.{Short, value_short, value_below}
use Rattle.root.specs.Root.{square, nearest_step, whole_root, root_units, root_of}
use Rattle.root.specs.Nearest.{Units, Nearer, NearestRoot}
use Rattle.root.proofs.Squares.{square_mul, square_odd, square_le, square_lt, root_lt}
use Rattle.root.proofs.WholeRoot.{whole_root_lem}
use Rattle.root.proofs.Patterns.{root_of_units}

-- ---- no tie

even : (o p : ℕ) → o % 2 ≡ 1 → o ≡ p * 2 → ⊥
even o p h e = omega arith

-- a larger odd number is no such product
odd_part : (o p s t : ℕ) → o % 2 ≡ 1 → p < o → o * 2 ^ s ≡ p * 2 ^ t → ⊥
odd_part o p zero zero h l e = omega arith
odd_part o p zero (suc t) h l e = even o (p * 2 ^ t) h (sym (mul-one o) ∙ e ∙ ap (λ (z : ℕ). p * z) (pow-suc 2 t) ∙ sym (mul_assoc p (2 ^ t) 2))
odd_part o p (suc s) zero h l e =
    let g : o * 1 ≤ o * 2 ^ suc s = mul-le-mul_left o (pow_pos (suc s)) in
    omega arith
odd_part o p (suc s) (suc t) h l e =
    odd_part o p s t h l (eq_of_mul-eq-mul_right 2 (lit< tt) (o * 2 ^ s) (p * 2 ^ t)
    (mul_assoc o (2 ^ s) 2 ∙ ap (λ (z : ℕ). o * z) (sym (pow-suc 2 s)) ∙ e ∙ ap (λ (z : ℕ). p * z) (pow-suc 2 t) ∙ sym (mul_assoc p (2 ^ t) 2)))

pub no_tie : (a q k : ℕ) → Short a → 2 ^ 23 ≤ q → 4 * (a * 2 ^ 149) ≡ square ((2 * q + 1) * 2 ^ k) → ⊥
no_tie a q k d h e =
    let p = d.0 in
    let j = d.1 in
    let g : 2 ^ 46 ≤ square q = square_le h in
    let l : p < square (2 * q + 1) = omega (arith, square_odd q, d.2) in
    let f : 4 * (a * 2 ^ 149) ≡ p * 2 ^ (j + 151) =
    ap (λ (z : ℕ). 4 * (z * 2 ^ 149)) d.3 ∙ ap (λ (z : ℕ). 4 * z) (mul_assoc p (2 ^ j) (2 ^ 149)) ∙ mul_left_comm 4 p (2 ^ j * 2 ^ 149)
    ∙ ap (λ (z : ℕ). p * z) (mul_left_comm 4 (2 ^ j) (2 ^ 149) ∙ sym (pow-add 2 j 151)) in
    let s : square ((2 * q + 1) * 2 ^ k) ≡ square (2 * q + 1) * 2 ^ (k + k) = square_mul (2 * q + 1) (2 ^ k) ∙ ap (λ (z : ℕ). square (2 * q + 1) * z) (sym (pow-add 2 k k)) in
    odd_part (square (2 * q + 1)) p (k + k) (j + 151) (omega (arith, square_odd q)) l (sym s ∙ sym e ∙ f)

-- ---- within half a unit

-- twice the root of n lies strictly between 2 * d - u and 2 * d + u
abbrev Near : ℕ → ℕ → ℕ → Type 0
Near n d u = ((w : ℕ) → w + u ≤ 2 * d → square w < 4 * n) × ((w : ℕ) → 2 * d + u ≤ w → 4 * n < square w)

-- the digits q that are kept of the root of n, and how the rounding moves them
module _ (n q u : ℕ) (p : 0 < u) (lo : square (q * u) ≤ n) (hi : n < square ((q + 1) * u)) where
  middle : (2 * q + 1) * u ≡ 2 * (q * u) + u
  middle =
      let e : (2 * q + 1) * u ≡ 2 * q * u + 1 * u = add-mul (2 * q) 1 u in
      let f : 2 * q * u ≡ 2 * (q * u) = mul_assoc 2 q u in
      omega arith

  near_stays : 4 * n < square ((2 * q + 1) * u) → Near n (q * u) u
  near_stays h = (
    λ w l. lt_of_lt_of_le (square_lt {a = w} {b = 2 * (q * u)} (omega arith)) (le_trans (le_of_eq (square_mul 2 (q * u))) (mul-le-mul_left 4 lo)),
    λ w l. lt_of_lt_of_le h (square_le (le_trans (le_of_eq middle) l)),
  )

  near_moves : square ((2 * q + 1) * u) < 4 * n → Near n (suc q * u) u
  near_moves h =
      let e : suc q * u ≡ q * u + u = suc-mul q u in
      let f : (q + 1) * u ≡ q * u + u = omega (arith, add-mul q 1 u) in
      let m = middle in (
        λ w l. lt_of_le_of_lt (square_le {a = w} {b = (2 * q + 1) * u} (omega arith)) h,
        λ w l. lt_of_lt_of_le (lt_of_lt_of_le (mul-lt-mul_of_pos_left hi (lit< tt)) (le_of_eq (sym (square_mul 2 ((q + 1) * u))))) (square_le {a = 2 * ((q + 1) * u)} {b = w} (omega arith)),
      )

-- ---- against every other value

-- d is q' of 24 digits or 2 ^ 24, times u; where it is 2 ^ 23 it is the root cut off
module _ (n q' k : ℕ) (ge : 2 ^ 23 ≤ q') (near : Near n (q' * 2 ^ k) (2 ^ k)) (cut : q' ≡ 2 ^ 23 → square (q' * 2 ^ k) ≤ n) where
  -- whole steps of u
  steps : (c d : ℕ) → c < d → c * 2 ^ k + 2 ^ k ≤ d * 2 ^ k
  steps c d h = le_trans (le_of_eq (sym (suc-mul c (2 ^ k)))) (mul-le-mul_right (2 ^ k) h)

  coarse : (c : ℕ) → Nearer n (q' * 2 ^ k) (c * 2 ^ k)
  coarse c = record {
    above = λ h. near.0 (q' * 2 ^ k + c * 2 ^ k) (omega (arith, steps c q' (lt_of_mul-lt-mul_right (2 ^ k) h)));
    below = λ h. near.1 (q' * 2 ^ k + c * 2 ^ k) (omega (arith, steps q' c (lt_of_mul-lt-mul_right (2 ^ k) h)));
  }

  -- below 2 ^ 23 steps
  fine : (b : ℕ) → b < 2 ^ 23 * 2 ^ k → Nearer n (q' * 2 ^ k) b
  fine b l =
      let g : 2 ^ 23 * 2 ^ k ≤ q' * 2 ^ k = mul-le-mul_right (2 ^ k) ge in
      record {
        above = λ h. ⊎_elim
            (λ (e : 2 ^ 23 ≡ q'). lt_of_lt_of_le (square_lt {a = q' * 2 ^ k + b} {b = 2 * (q' * 2 ^ k)} (omega arith)) (le_trans (le_of_eq (square_mul 2 (q' * 2 ^ k))) (mul-le-mul_left 4 (cut (sym e)))))
            (λ (s : 2 ^ 23 < q'). near.0 (q' * 2 ^ k + b) (omega (arith, steps (2 ^ 23) q' s)))
            (eq-or-lt_of_le ge);
        below = λ h. absurd (omega arith);
      }

  -- a value p * 2 ^ j is a number of whole steps, or lies below 2 ^ 23 of them
  pub nearer : (b : ℕ) → Short b → Nearer n (q' * 2 ^ k) b
  nearer b s = elim (dec_le k s.1) [
    | yes h ↦
        let e : s.0 * 2 ^ (s.1 - k) * 2 ^ k ≡ b = mul_assoc s.0 (2 ^ (s.1 - k)) (2 ^ k) ∙ ap (λ (z : ℕ). s.0 * z) (sym (pow-add 2 (s.1 - k) k) ∙ ap (λ (z : ℕ). 2 ^ z) (back s.1 k h)) ∙ sym s.3 in
        subst (λ (z : ℕ). Nearer n (q' * 2 ^ k) z) e (coarse (s.0 * 2 ^ (s.1 - k)))
    | no h ↦
        fine b (subst (λ (z : ℕ). z < 2 ^ 23 * 2 ^ k) (sym s.3)
        (lt_of_lt_of_le (mul-lt-mul_of_pos_right s.2 (pow_pos s.1))
        (le_trans (le_of_eq (mul_assoc (2 ^ 23) 2 (2 ^ s.1) ∙ ap (λ (z : ℕ). 2 ^ 23 * z) (sym (pow-succ' 2 s.1)))) (mul-le-mul_left (2 ^ 23) (pow_mono (lt_of_not-le h))))))
  ]

-- ---- the definition's root

-- q' is where the rounding puts the root of n, in steps of 2 ^ k
abbrev Settled : ℕ → ℕ → ℕ → Type 0
Settled n k q' = (2 ^ 23 ≤ q') × (q' ≤ 2 ^ 24) × Near n (q' * 2 ^ k) (2 ^ k) × (q' ≡ 2 ^ 23 → square (q' * 2 ^ k) ≤ n)

settle : (n k q : ℕ) → 2 ^ 23 ≤ q → q < 2 ^ 24 → square (q * 2 ^ k) ≤ n → n < square ((q + 1) * 2 ^ k) → (4 * n ≡ square ((2 * q + 1) * 2 ^ k) → ⊥)
    → Settled n k (nearest_step n q k)
settle n k q ge lt lo hi tie = elim (dec_le (4 * n) m) [ yes h ↦ ⊎_elim (λ e. absurd (tie e)) below (eq-or-lt_of_le h) | no h ↦ above (lt_of_not-le h) ]
  where
    m : ℕ
    m = square ((2 * q + 1) * 2 ^ k)

    below : 4 * n < m → Settled n k (nearest_step n q k)
    below h = subst (λ (o : Ordering). Settled n k (nearest q o)) (sym (compare_lt (4 * n) m h)) (ge, omega arith, near_stays n q (2 ^ k) (pow_pos k) lo hi h, λ e. lo)

    above : m < 4 * n → Settled n k (nearest_step n q k)
    above h = subst (λ (o : Ordering). Settled n k (nearest q o)) (sym (compare_gt (4 * n) m h)) (omega arith, lt, near_moves n q (2 ^ k) (pow_pos k) lo hi h, λ e. absurd (omega arith))

module _ (a : ℕ) (p : 0 < a) (short : Short a) (small : a < 2 ^ 277) where
  abbrev n : ℕ
  n = a * 2 ^ 149

  abbrev r : ℕ
  r = whole_root n

  abbrev k : ℕ
  k = size r - 24

  abbrev q : ℕ
  q = r / 2 ^ k

  -- the root has 24 digits at least, and 213 at most
  all_digits : 24 + k ≡ size r
  all_digits =
      let h : 2 ^ 23 < r + 1 = root_lt {n = n} (le_trans (lit≤ tt) (mul-le-mul_right (2 ^ 149) p)) (whole_root_lem n).1 in
      let l : 2 ^ 23 ≤ r = omega arith in
      omega (arith, size_above r 23 l)

  few_dropped : 24 + k ≤ 213
  few_dropped =
      let h : r < 2 ^ 213 = root_lt {n = n} (whole_root_lem n).0 (mul-lt-mul_of_pos_right {k = 2 ^ 149} small (lit< tt)) in
      le_trans (le_of_eq all_digits) (size-le r 213 h)

  settled : Settled n k (nearest_step n q k)
  settled =
      let ge : 2 ^ 23 ≤ q = (le-div_iff_mul-le (pow_pos k)).1 (le_trans (le_of_eq (sym (pow-add 2 23 k))) (size_reaches r (23 + k) (le_of_eq all_digits'))) in
      let up : r < (q + 1) * 2 ^ k = (div-lt_iff_lt-mul (pow_pos k)).0 (omega arith) in
      let up' : r + 1 ≤ (q + 1) * 2 ^ k = omega arith in
      settle n k q ge (kept-lt 24 r) (le_trans (square_le (div-mul-le_self r (2 ^ k))) (whole_root_lem n).0) (lt_of_lt_of_le (whole_root_lem n).1 (square_le up')) (no_tie a q k short ge)
    where
      all_digits' : suc (23 + k) ≡ size r
      all_digits' = omega (arith, all_digits)

  -- how many units the rounded root is
  abbrev d : ℕ
  d = nearest_step n q k * 2 ^ k

  root_value : Units (root_units n) d
  unfolding root_units
  root_value =
      units_val binary32 false (nearest_step n q k) k
      (lt_of_le_of_lt (mul-le-mul_right (2 ^ k) settled.1) (lt_of_le_of_lt (le_of_eq (sym (pow-add 2 24 k))) (lt_of_le_of_lt (pow_mono few_dropped) (lit< tt))))

  root_nearer : (b : ℕ) → Short b → Nearer n d b
  root_nearer = nearer n (nearest_step n q k) k settled.0 settled.2 settled.3

-- the law: of a positive value the root is the nearest value
pub root_nearest : (x : Float) → T (fits binary32 x) → NearestRoot x (root_of x)
root_nearest x t = record {
  near = λ a p v.
      let short = value_short x false a t v in
      let small = value_below x false a t v in (
        d a p short small,
        subst (λ (y : Float). Units y (d a p short small)) (sym (root_of_units x a p v)) (root_value a p short small),
        λ y b u w. root_nearer a p short small b (value_short y false b u w),
      );
}
