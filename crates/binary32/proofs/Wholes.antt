-- A value that is a whole number over a power of two: its magnitude and its sign are the whole number's, and each finite f32 is one over 2 ^ 149. Assumes nothing.
use mathlib.Core.Path.{◌≡◌, refl, sym, ap, ◌∙◌}
use mathlib.Core.Logic.{inl, inr}
use mathlib.Core.Bool.{Bool, true, false, not}
use Prim.Native.Nat.{ℕ, zero, suc, ◌+◌, ◌-◌, ◌*◌, ◌/◌, ◌^◌, ◌≤◌, ◌<◌}
use native.Mathlib.Nat.{le_of_suc-le-suc, lt_of_not-le, not-le_of_lt, mul-one, mul-zero, zero-add, add-mul, mul-le-mul_right, mul-lt-mul_of_pos_right, mul-pos, zero-mul, mul_assoc, mul_comm, mul_right_comm, mul-div_cancel, zero-div, eq_of_mul-eq-mul_right}
use native.Mathlib.Omega.{arith}
use borrow.Author.Tests.{lt-ltb, le-ltb}
use lib.Dec.{T, ltb, ltb→lt}
use lib.IntN.{ℤ, pos, negsuc, nat_abs, ◌*ℤ◌}
use lib.Signed.{non_neg, lt_z}
use lib.Pow.{pow-add, pow_pos, pow-lt}
use lib.Ieee.{Float, nan, inf, fin, binary32, low, up, down, unlike, below, lt}
use lib.Ieee.Digits.{back}
use lib.Ieee.Exact.{HasValue}
use lib.Ieee.Fits.{up_pos, down_pos}
use lib.Ieee.Positive.{above}
use Rattle.std.proofs.lemmas.Bool.{cases_lt}
use Rattle.binary32.specs.Numbers.{magnitude}
use Rattle.binary32.specs.Wholes.{signed, Exactly, whole_of, EachIsWhole}
use Rattle.binary32.proofs.Magnitudes.{sgn}
use Rattle.binary32.proofs.Values.{fits_says}

-- ---- a signed number
pub signed_size : (s : Bool) (n : ℕ) → nat_abs (signed s n) ≡ n
signed_size true zero = refl
signed_size true (suc n) = refl
signed_size false n = refl

pub signed_sign : (s : Bool) (n : ℕ) → 0 < n → non_neg (signed s n) ≡ not s
signed_sign true zero h = absurd (omega arith)
signed_sign true (suc n) h = refl
signed_sign false n h = refl

pub signed_times : (s : Bool) (n d : ℕ) → signed s n *ℤ pos d ≡ signed s (n * d)
signed_times true zero d = rw (zero-mul d) refl
signed_times true (suc n) d = refl
signed_times false n d = refl

pub signed_mul : (s t : Bool) (a b : ℕ) → signed s a *ℤ signed t b ≡ signed (unlike s t) (a * b)
signed_mul true true zero zero = refl
signed_mul true true zero (suc b) = rw (zero-mul (suc b)) refl
signed_mul true true (suc a) zero = rw (mul-zero (suc a)) refl
signed_mul true true (suc a) (suc b) = refl
signed_mul true false a b = signed_times true a b
signed_mul false true a zero = rw (mul-zero a) refl
signed_mul false true a (suc b) = refl
signed_mul false false a b = refl

-- X is a signed number, one by its sign and its size
pub as_signed : (X : ℤ) → X ≡ signed (not (non_neg X)) (nat_abs X)
as_signed (pos n) = refl
as_signed (negsuc n) = refl

pub times_size : (X : ℤ) (d : ℕ) → nat_abs (X *ℤ pos d) ≡ nat_abs X * d
times_size X d = ap (λ (Z : ℤ). nat_abs (Z *ℤ pos d)) (as_signed X) ∙ ap nat_abs (signed_times (not (non_neg X)) (nat_abs X) d) ∙ signed_size (not (non_neg X)) (nat_abs X * d)

pub times_twice : (X : ℤ) (c d : ℕ) → X *ℤ pos c *ℤ pos d ≡ X *ℤ pos (c * d)
times_twice X c d = rw (as_signed X, signed_times (not (non_neg X)) (nat_abs X) c, signed_times (not (non_neg X)) (nat_abs X * c) d, signed_times (not (non_neg X)) (nat_abs X) (c * d), mul_assoc (nat_abs X) c d) refl

-- ---- the order of signed numbers
below_signed : (s t : Bool) (a b : ℕ) → below s a t b ≡ lt_z (signed s a) (signed t b)
below_signed false false a b = refl
below_signed false true a zero = sym (le-ltb a 0 (omega arith))
below_signed false true a (suc b) = refl
below_signed true false zero b = rw (zero-add b) refl
below_signed true false (suc a) b = lt-ltb 0 (suc a + b) (omega arith)
below_signed true true zero zero = refl
below_signed true true zero (suc b) = le-ltb (suc b) 0 (omega arith)
below_signed true true (suc a) zero = lt-ltb 0 (suc a) (omega arith)
below_signed true true (suc a) (suc b) = elim (cases_lt b a) [ inl l ↦ rw (lt-ltb b a l, lt-ltb (suc b) (suc a) (omega arith)) refl | inr l ↦ rw (le-ltb b a l, le-ltb (suc b) (suc a) (omega arith)) refl ]

pub ltb_times : (a b c : ℕ) → 0 < c → ltb (a * c) (b * c) ≡ ltb a b
ltb_times a b c C = elim (cases_lt a b) [
  | inl l ↦ lt-ltb (a * c) (b * c) (mul-lt-mul_of_pos_right l C) ∙ sym (lt-ltb a b l)
  | inr l ↦ le-ltb (a * c) (b * c) (mul-le-mul_right c l) ∙ sym (le-ltb a b l)
]

below_times : (s t : Bool) (a b c : ℕ) → 0 < c → below s (a * c) t (b * c) ≡ below s a t b
below_times false false a b c C = ltb_times a b c C
below_times false true a b c C = refl
below_times true false a b c C = (λ i. ltb (sym (zero-mul c) i) (sym (add-mul a b c) i)) ∙ ltb_times 0 (a + b) c C
below_times true true a b c C = ltb_times b a c C

lt_times : (X Y : ℤ) (c : ℕ) → 0 < c → lt_z (X *ℤ pos c) (Y *ℤ pos c) ≡ lt_z X Y
lt_times X Y c C =
    let s = not (non_neg X) in
    let t = not (non_neg Y) in
    let a = nat_abs X in
    let b = nat_abs Y in
    (λ i. lt_z ((ap (λ (Z : ℤ). Z *ℤ pos c) (as_signed X) ∙ signed_times s a c) i) ((ap (λ (Z : ℤ). Z *ℤ pos c) (as_signed Y) ∙ signed_times t b c) i))
    ∙ sym (below_signed s t (a * c) (b * c))
    ∙ below_times s t a b c C
    ∙ below_signed s t a b
    ∙ (λ i. lt_z (sym (as_signed X) i) (sym (as_signed Y) i))

-- ---- what `Exactly` says
pub size_exactly : (k : ℕ) (x : Float) (X : ℤ) → Exactly k x X → HasValue (magnitude x) false (nat_abs X) (2 ^ k)
size_exactly k nan X h = h
size_exactly k (inf s) X h = h
size_exactly k (fin s m e) X h = (refl, sym (signed_size s (m * up e * 2 ^ k)) ∙ ap nat_abs h ∙ times_size X (down e))

pub sign_exactly : (k : ℕ) (x : Float) (X : ℤ) → T (above (magnitude x)) → Exactly k x X → non_neg X ≡ not (sgn x)
sign_exactly k nan X p h = absurd h
sign_exactly k (inf s) X p h = absurd h
sign_exactly k (fin s m e) X p h =
    let n = m * up e * 2 ^ k in
    let N : 0 < n = mul-pos (mul-pos (ltb→lt 0 m p) (up_pos e)) (pow_pos k) in
    sym (same X (down e) (down_pos e)) ∙ ap non_neg (sym h) ∙ signed_sign s n N
  where
    same : (X : ℤ) (d : ℕ) → 0 < d → non_neg (X *ℤ pos d) ≡ non_neg X
    same (pos a) d D = refl
    same (negsuc a) d D = signed_sign true (suc a * d) (mul-pos (omega arith) D)

-- a value that is N / c is A / 2 ^ k where these fractions are equal
pub exactly_value : (k : ℕ) (x : Float) (s : Bool) (N c A : ℕ) → 0 < c → HasValue x s N c → N * 2 ^ k ≡ A * c → Exactly k x (signed s A)
exactly_value k nan s N c A C h e = h
exactly_value k (inf t) s N c A C h e = h
exactly_value k (fin t m d) s N c A C h e =
    let n : m * up d * 2 ^ k ≡ A * down d =
    eq_of_mul-eq-mul_right c C (m * up d * 2 ^ k) (A * down d)
    (mul_right_comm (m * up d) (2 ^ k) c ∙ ap (λ (z : ℕ). z * 2 ^ k) h.1 ∙ mul_right_comm N (down d) (2 ^ k) ∙ ap (λ (z : ℕ). z * down d) e ∙ mul_right_comm A c (down d)) in
    (λ i. signed (h.0 i) (n i)) ∙ sym (signed_times s A (down d))

-- the order of two values is that of their whole numbers
pub lt_exactly : (k : ℕ) (x y : Float) (X Y : ℤ) → Exactly k x X → Exactly k y Y → lt x y ≡ lt_z X Y
unfolding lt
lt_exactly k nan y X Y h g = absurd h
lt_exactly k (inf s) y X Y h g = absurd h
lt_exactly k (fin s m e) nan X Y h g = absurd g
lt_exactly k (fin s m e) (inf t) X Y h g = absurd g
lt_exactly k (fin s m e) (fin t n d) X Y h g =
    let p = m * up e * 2 ^ k in
    let q = n * up d * 2 ^ k in
    let x : signed s (p * down d) ≡ X *ℤ pos (down e * down d) = sym (signed_times s p (down d)) ∙ ap (λ (Z : ℤ). Z *ℤ pos (down d)) h ∙ times_twice X (down e) (down d) in
    let y : signed t (q * down e) ≡ Y *ℤ pos (down e * down d) = sym (signed_times t q (down e)) ∙ ap (λ (Z : ℤ). Z *ℤ pos (down e)) g ∙ times_twice Y (down d) (down e) ∙ ap (λ (z : ℕ). Y *ℤ pos z) (mul_comm (down d) (down e)) in
    sym (below_times s t (m * up e * down d) (n * up d * down e) (2 ^ k) (pow_pos k))
    ∙ (λ i. below s (mul_right_comm (m * up e) (down d) (2 ^ k) i) t (mul_right_comm (n * up d) (down e) (2 ^ k) i))
    ∙ below_signed s t (p * down d) (q * down e)
    ∙ (λ i. lt_z (x i) (y i))
    ∙ lt_times X Y (down e * down d) (mul-pos (down_pos e) (down_pos d))

-- ---- each finite f32 is whole over 2 ^ 149
-- 2 ^ 149 is a multiple of the divisor
divides : (e : ℤ) → down e ≤ 2 ^ low binary32 → (q : ℕ) × (q * down e ≡ 2 ^ low binary32)
divides (pos k) h = (2 ^ 149, mul-one (2 ^ 149))
divides (negsuc k) h =
    let g : suc k ≤ 149 = le_of_suc-le-suc (lt_of_not-le λ (n : 150 ≤ suc k). not-le_of_lt (pow-lt n) h) in
    (2 ^ (149 - suc k), sym (pow-add 2 (149 - suc k) (suc k)) ∙ ap (λ (z : ℕ). 2 ^ z) (back 149 (suc k) g))

cut : (m : ℕ) (e : ℤ) → down e ≤ 2 ^ low binary32 → m * up e * 2 ^ low binary32 / down e * down e ≡ m * up e * 2 ^ low binary32
cut m e h =
    let q = divides e h in
    let n : m * up e * 2 ^ low binary32 ≡ m * up e * q.0 * down e = ap (λ (z : ℕ). m * up e * z) (sym q.1) ∙ sym (mul_assoc (m * up e) q.0 (down e)) in
    ap (λ (z : ℕ). z / down e * down e) n ∙ ap (λ (z : ℕ). z * down e) (mul-div_cancel (m * up e * q.0) (down_pos e)) ∙ sym n

-- of a zero there is nothing to cut
cut_zero : (e : ℤ) → 0 * up e * 2 ^ low binary32 / down e * down e ≡ 0 * up e * 2 ^ low binary32
cut_zero e =
    let n : 0 * up e * 2 ^ low binary32 ≡ 0 = ap (λ (z : ℕ). z * 2 ^ low binary32) (zero-mul (up e)) ∙ zero-mul (2 ^ low binary32) in
    ap (λ (z : ℕ). z / down e * down e) n ∙ ap (λ (z : ℕ). z * down e) (zero-div (down e)) ∙ zero-mul (down e) ∙ sym n

whole_at : (s : Bool) (m : ℕ) (e : ℤ) → m * up e * 2 ^ low binary32 / down e * down e ≡ m * up e * 2 ^ low binary32 → Exactly (low binary32) (fin s m e) (whole_of (fin s m e))
unfolding whole_of
whole_at s m e h = ap (signed s) (sym h) ∙ sym (signed_times s (m * up e * 2 ^ low binary32 / down e) (down e))

pub each_is_whole : EachIsWhole
each_is_whole nan t u = absurd u
each_is_whole (inf s) t u = absurd u
each_is_whole (fin s zero e) t u = whole_at s 0 e (cut_zero e)
each_is_whole (fin s (suc m) e) t u = whole_at s (suc m) e (cut (suc m) e (fits_says s m e t).1)
