-- A finite value as a whole number of binary32's smallest one, 2 ^ -149: which pattern it has, and what a pattern's fields make. Assumes nothing.
use mathlib.Core.Path.{◌≡◌, sym, ap, ◌∙◌, subst}
use mathlib.Core.Bool.{Bool, true, false, cond, ◌&&◌, true≢false}
use Prim.Native.Nat.{ℕ, zero, suc, ◌+◌, ◌-◌, ◌*◌, ◌/◌, ◌%◌, ◌^◌, ◌≤◌, ◌<◌}
use mathlib.Core.Logic.{⊎_elim}
use native.Mathlib.Nat.{eq-or-lt_of_le, pow-succ', lt_of_le_of_lt, lt_of_not-le, not-le_of_lt, le_of_suc-le-suc, zero-add, zero-mul, mul-div_cancel, mul_assoc, mul_right_comm, mul-one, mul-lt-mul_of_pos_right, lt_of_mul-lt-mul_right, eq_of_mul-eq-mul_right}
use native.Mathlib.Omega.{arith}
use borrow.Author.Tests.{lt-leb, ne_eqb}
use lib.Dec.{T, leb, ltb, eqb, ltb→lt, leb→le, lit<, lit≤}
use lib.IntN.{ℤ, pos, negsuc}
use lib.Pow.{pow-add, pow_pos, pow-lt, shl-shr}
use lib.Ieee.{Float, nan, inf, fin, binary32, low, up, down, size, odd, units, fits, of_fields, of_bits, to_bits}
use lib.Ieee.Digits.{back}
use lib.Ieee.Exact.{HasValue, odd_sign}
use lib.Ieee.Fits.{odd-fits, down_pos, and_l, and_r, inf-fits}
use Rattle.binary32.proofs.Sizes.{size_shifted}

-- ---- from a value to its pattern

-- how many of the smallest value it is
pub value_cut : (m : ℕ) (e : ℤ) (a : ℕ) → m * up e * 2 ^ low binary32 ≡ a * down e → m * up e * 2 ^ low binary32 / down e ≡ a
value_cut m e a h = ap (λ (z : ℕ). z / down e) h ∙ mul-div_cancel a (down_pos e)

-- a by its leading digits and how many are dropped
abbrev pub pattern : ℕ → ℕ
pattern a = (size a - 24) * 2 ^ 23 + a / 2 ^ (size a - 24)

pub to_bits_value : (x : Float) (a : ℕ) → HasValue x false a (2 ^ low binary32) → to_bits binary32 x ≡ pattern a
unfolding to_bits
to_bits_value nan a v = absurd v
to_bits_value (inf s) a v = absurd v
to_bits_value (fin true m e) a v = absurd (true≢false v.0)
to_bits_value (fin false m e) a v =
    ap (λ (n : ℕ). 0 + (size n - 24) * 2 ^ 23 + n / 2 ^ (size n - 24)) (value_cut m e a v.1) ∙ ap (λ (z : ℕ). z + a / 2 ^ (size a - 24)) (zero-add ((size a - 24) * 2 ^ 23))

-- a number of 24 digits, times a power of two
pub pattern_shifted : (q k : ℕ) → 2 ^ 23 ≤ q → q < 2 ^ 24 → pattern (q * 2 ^ k) ≡ k * 2 ^ 23 + q
pattern_shifted q k h l =
    let e : size (q * 2 ^ k) ≡ 24 + k = size_shifted q 23 k h l in
    let f : size (q * 2 ^ k) - 24 ≡ k = omega arith in
    ap (λ (z : ℕ). z * 2 ^ 23 + q * 2 ^ k / 2 ^ z) f ∙ ap (λ (z : ℕ). k * 2 ^ 23 + z) (shl-shr q k)

-- the same up to 2 ^ 24: the carry goes into the exponent's field
pub pattern_carried : (q k : ℕ) → 2 ^ 23 ≤ q → q ≤ 2 ^ 24 → pattern (q * 2 ^ k) ≡ k * 2 ^ 23 + q
pattern_carried q k h l = ⊎_elim carry (pattern_shifted q k h) (eq-or-lt_of_le l)
  where
    carry : q ≡ 2 ^ 24 → pattern (q * 2 ^ k) ≡ k * 2 ^ 23 + q
    carry e =
        let f : q * 2 ^ k ≡ 2 ^ 23 * 2 ^ suc k = ap (λ (z : ℕ). z * 2 ^ k) e ∙ mul_assoc (2 ^ 23) 2 (2 ^ k) ∙ ap (λ (z : ℕ). 2 ^ 23 * z) (sym (pow-succ' 2 k)) in
        ap pattern f ∙ pattern_shifted (2 ^ 23) (suc k) (lit≤ tt) (lit< tt) ∙ omega arith

pub units_fit : (s : Bool) (q k : ℕ) → q ≤ 2 ^ 24 → T (fits binary32 (units binary32 s q k))
unfolding units
units_fit s q k a = go (ltb (q * 2 ^ k) (2 ^ 277)) (ltb→lt (q * 2 ^ k) (2 ^ 277))
  where
    go : (b : Bool) → (T b → q * 2 ^ k < 2 ^ 277) → T (fits binary32 (cond b (odd 25 s q k 149) (inf s)))
    go true h = odd-fits binary32 25 s q k (lt_of_le_of_lt a (lit< tt)) a (h tt)
    go false h = inf-fits binary32 s

-- ---- from a pattern's fields to its value

-- with the sign known
pub of_bits_sign : (s : Bool) (b : ℕ) → leb (2 ^ 31) b ≡ s → of_bits binary32 b ≡ of_fields binary32 s (b % 2 ^ 31 / 2 ^ 23) (b % 2 ^ 23)
unfolding of_bits
of_bits_sign s b e = ap (λ (t : Bool). of_fields binary32 t (b % 2 ^ 31 / 2 ^ 23) (b % 2 ^ 23)) e

pub of_bits_fields : (x t : ℕ) → x < 256 → t < 2 ^ 23 → of_bits binary32 (x * 2 ^ 23 + t) ≡ of_fields binary32 false x t
of_bits_fields x t h l =
    let b = x * 2 ^ 23 + t in
    let e : b % 2 ^ 31 / 2 ^ 23 ≡ x = omega arith in
    let f : b % 2 ^ 23 ≡ t = omega arith in
    of_bits_sign false b (lt-leb (2 ^ 31) b (omega arith))
    ∙ ap (λ (z : ℕ). of_fields binary32 false z (b % 2 ^ 23)) e
    ∙ ap (λ (z : ℕ). of_fields binary32 false x z) f

pub subnormal_value : (s : Bool) (t : ℕ) → HasValue (of_fields binary32 s 0 t) s (t * 2 ^ 0) (2 ^ low binary32)
unfolding of_fields
subnormal_value s t = odd_sign 24 s t 0 149

pub normal_value : (s : Bool) (x t : ℕ) → suc x < 255 → HasValue (of_fields binary32 s (suc x) t) s ((2 ^ 23 + t) * 2 ^ x) (2 ^ low binary32)
unfolding of_fields
normal_value s x t h =
    subst (λ (b : Bool). HasValue (cond b (cond (eqb t 0) (inf s) nan) (odd 24 s (2 ^ 23 + t) x 149)) s ((2 ^ 23 + t) * 2 ^ x) (2 ^ 149))
    (sym (ne_eqb (suc x) 255 (λ e. omega arith))) (odd_sign 24 s (2 ^ 23 + t) x 149)

-- ---- which whole numbers are values: those of at most 24 digits, times a power of two

-- what `fits` says of a value that is not 0
pub fits_says : (s : Bool) (m : ℕ) (e : ℤ) → T (fits binary32 (fin s (suc m) e)) → (suc m < 2 ^ 24) × (down e ≤ 2 ^ 149) × (suc m * up e < 2 ^ 128 * down e)
unfolding fits
fits_says s m e t =
    let a : Bool = eqb (suc m % 2) 1 in
    let b : Bool = ltb (suc m) (2 ^ 24) in
    let c : Bool = leb (down e) (2 ^ 149) in
    let d : Bool = ltb (suc m * up e) (2 ^ 128 * down e) in
    let u : T (a && b && c) = and_l (a && b && c) d t in
    (ltb→lt (suc m) (2 ^ 24) (and_r a b (and_l (a && b) c u)), leb→le (down e) (2 ^ 149) (and_r (a && b) c u), ltb→lt (suc m * up e) (2 ^ 128 * down e) (and_r (a && b && c) d t))

-- a zero is none of the smallest value
pub nought_value : (e : ℤ) (a : ℕ) → 0 * up e * 2 ^ 149 ≡ a * down e → a ≡ 0
nought_value e a h =
    eq_of_mul-eq-mul_right (down e) (down_pos e) a 0 (sym h ∙ ap (λ (z : ℕ). z * 2 ^ 149) (zero-mul (up e)) ∙ zero-mul (2 ^ 149) ∙ sym (zero-mul (down e)))

-- a is p * 2 ^ j with p of at most 24 digits
abbrev pub Short : ℕ → Type 0
Short a = (p : ℕ) × (j : ℕ) × (p < 2 ^ 24) × (a ≡ p * 2 ^ j)

scale : (m : ℕ) (e : ℤ) (a : ℕ) → m < 2 ^ 24 → down e ≤ 2 ^ 149 → m * up e * 2 ^ 149 ≡ a * down e → Short a
scale m (pos k) a l d h = (m, k + 149, l, sym (mul-one a) ∙ sym h ∙ mul_assoc m (2 ^ k) (2 ^ 149) ∙ ap (λ (z : ℕ). m * z) (sym (pow-add 2 k 149)))
scale m (negsuc k) a l d h =
    let g : suc k ≤ 149 = le_of_suc-le-suc (lt_of_not-le λ (n : 150 ≤ suc k). not-le_of_lt (pow-lt n) d) in
    let e : 2 ^ (149 - suc k) * 2 ^ suc k ≡ 2 ^ 149 = sym (pow-add 2 (149 - suc k) (suc k)) ∙ ap (λ (z : ℕ). 2 ^ z) (back 149 (suc k) g) in (
      m,
      149 - suc k,
      l,
      eq_of_mul-eq-mul_right (2 ^ suc k) (pow_pos (suc k)) a (m * 2 ^ (149 - suc k))
          (sym h ∙ ap (λ (z : ℕ). z * 2 ^ 149) (mul-one m) ∙ ap (λ (z : ℕ). m * z) (sym e) ∙ sym (mul_assoc m (2 ^ (149 - suc k)) (2 ^ suc k))),
    )

pub value_short : (x : Float) (s : Bool) (a : ℕ) → T (fits binary32 x) → HasValue x s a (2 ^ low binary32) → Short a
value_short nan s a t v = absurd v
value_short (inf u) s a t v = absurd v
value_short (fin u zero e) s a t v = (0, 0, lit< tt, nought_value e a v.1)
value_short (fin u (suc m) e) s a t v = let f = fits_says u m e t in scale (suc m) e a f.0 f.1 v.1

-- and it is below 2 ^ 128, which is 2 ^ 277 of the smallest value
pub value_below : (x : Float) (s : Bool) (a : ℕ) → T (fits binary32 x) → HasValue x s a (2 ^ low binary32) → a < 2 ^ 277
value_below nan s a t v = absurd v
value_below (inf u) s a t v = absurd v
value_below (fin u zero e) s a t v = subst (λ (z : ℕ). z < 2 ^ 277) (sym (nought_value e a v.1)) (lit< tt)
value_below (fin u (suc m) e) s a t v =
    lt_of_mul-lt-mul_right (down e)
    (subst (λ (z : ℕ). z < 2 ^ 277 * down e) v.1
    (subst (λ (z : ℕ). suc m * up e * 2 ^ 149 < z) (mul_right_comm (2 ^ 128) (down e) (2 ^ 149)) (mul-lt-mul_of_pos_right (fits_says u m e t).2 (pow_pos 149))))
