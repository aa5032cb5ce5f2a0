-- A value of binary32 that is finite and not zero, times 7, keeps its sign, and times -7 changes it: the product is no less than the smallest value, so it does not round
-- to zero, and one that overflows is an infinity of that sign. Assumes nothing.
use mathlib.Core.Path.{◌≡◌, refl, sym, ap, ◌∙◌, subst}
use mathlib.Core.Bool.{Bool, true, false, not, ◌&&◌}
use Prim.Native.Nat.{ℕ, zero, suc, ◌*◌, ◌%◌, ◌^◌, ◌≤◌, ◌<◌}
use native.Mathlib.Nat.{zero-mul, one-mul, mul-one, mul-pos, mul-le-mul_right, zero-lt-suc, le_trans, le_of_eq}
use native.Mathlib.Omega.{arith}
use borrow.Author.Tests.{lt-ltb}
use lib.Dec.{T, ltb, leb, eqb, ltb→lt, lt→ltb, leb→le, lit<}
use lib.IntN.{ℤ, pos, negsuc}
use lib.Ieee.{Float, nan, inf, fin, binary32, up, down, unlike, level, round, mul, lt, le, eq, of_int, fits}
use lib.Ieee.Fits.{and_l, and_r, up_pos, down_pos}
use lib.Ieee.Order.{round_mono}
use lib.Ieee.Positive.{above, above_of_le}
use lib.Ieee.Scale.{finite}
use Rattle.binary32.specs.Numbers.{plus_zero, magnitude}
use Rattle.binary32.proofs.Magnitudes.{sgn, round_told}

-- ---- a value that is not zero is above zero exactly where its sign is plus
some : (m : ℕ) (e : ℤ) → T (ltb 0 m) → 0 < m * up e
some m e h = mul-pos (ltb→lt 0 m h) (up_pos e)

above_test : (x : Float) → T (above (magnitude x)) → lt plus_zero x ≡ not (sgn x)
unfolding lt
above_test nan h = absurd h
above_test (inf true) h = refl
above_test (inf false) h = refl
above_test (fin true m e) h = refl
above_test (fin false m e) h = rw (zero-mul (down e), lt-ltb 0 (m * up e * 1) (omega (arith, some m e h))) refl

-- ---- a fraction that is no less than the smallest value, 2 ^ -149, does not round to zero
least_is : round binary32 false 1 (2 ^ 149) ≡ fin false 1 (negsuc 148)
least_is = unfold round in refl

rounds_above : (n d : ℕ) → 0 < d → d ≤ n * 2 ^ 149 → T (above (round binary32 false n d))
rounds_above n d D h =
    let x = round binary32 false n d in
    let l : T (le (round binary32 false 1 (2 ^ 149)) x) = round_mono binary32 1 (2 ^ 149) n d (lit< tt) D (le_trans (le_of_eq (one-mul d)) h) in
    above_of_le (fin false 1 (negsuc 148)) x tt (subst (λ (y : Float). T (le y x)) least_is l)

rounded : (s : Bool) (n d : ℕ) → 0 < d → d ≤ n * 2 ^ 149 → lt plus_zero (round binary32 s n d) ≡ not s
rounded s n d D h =
    let r = round_told binary32 s n d in
    above_test (round binary32 s n d) (subst (λ (x : Float). T (above x)) (sym r.0) (rounds_above n d D h)) ∙ ap not r.1

-- ---- a value times a 7 of either sign
seven : of_int binary32 (pos 7) ≡ fin false 7 (pos 0)
seven = unfold of_int round in refl

minus_seven : of_int binary32 (negsuc 6) ≡ fin true 7 (pos 0)
minus_seven = unfold of_int round in refl

-- a value is a multiple of the smallest one
multiple : (s : Bool) (m : ℕ) (e : ℤ) → T (fits binary32 (fin s (suc m) e)) → down e ≤ 2 ^ 149
unfolding fits
multiple s m e t =
    let a : Bool = eqb (suc m % 2) 1 && ltb (suc m) (2 ^ 24) in
    let b : Bool = leb (down e) (2 ^ 149) in
    let c : Bool = ltb (suc m * up e) (2 ^ 128 * down e) in
    leb→le (down e) (2 ^ 149) (and_r a b (and_l (a && b) c t))

grown : (m u d l : ℕ) → 0 < u → d ≤ l → d * 1 ≤ suc m * u * (7 * 1) * l
grown m u d l U h =
    le_trans (le_of_eq (mul-one d)) (le_trans h (le_trans (le_of_eq (sym (one-mul l))) (mul-le-mul_right l (mul-pos (mul-pos (zero-lt-suc m) U) (lit< tt)))))

times_7 : (s t : Bool) (m : ℕ) (e : ℤ) → T (fits binary32 (fin s (suc m) e)) → lt plus_zero (mul binary32 (fin s (suc m) e) (fin t 7 (pos 0))) ≡ not (unlike s t)
unfolding mul
times_7 s t m e h =
    rounded (unlike s t) (suc m * up e * (7 * 1)) (down e * 1) (mul-pos (down_pos e) (zero-lt-suc 0)) (grown m (up e) (down e) (2 ^ 149) (up_pos e) (multiple s m e h))

own_sign : (s : Bool) (m : ℕ) (e : ℤ) → lt plus_zero (fin s (suc m) e) ≡ not s
own_sign s m e = above_test (fin s (suc m) e) (lt→ltb 0 (suc m) (zero-lt-suc m))

-- ---- a zero of either sign, however it is written, equals +0
level_zero : (s : Bool) → level s 0 false 0 ≡ true
level_zero true = refl
level_zero false = refl

a_zero : (s : Bool) (e : ℤ) → T (not (eq (fin s zero e) plus_zero)) → ⊥
unfolding eq
a_zero s e t =
    let l : level s (0 * up e * 1) false (0 * down e) ≡ true = (λ i. level s (zero-mul (up e) i * 1) false (zero-mul (down e) i)) ∙ level_zero s in
    subst (λ (b : Bool). T (not b)) l t

-- ---- the two laws
unlike_plus : (s : Bool) → unlike s false ≡ s
unlike_plus true = refl
unlike_plus false = refl

unlike_minus : (s : Bool) → unlike s true ≡ not s
unlike_minus true = refl
unlike_minus false = refl

pub by_7 : (x : Float) → T (finite x) → T (fits binary32 x) → T (not (eq x plus_zero)) → lt plus_zero (mul binary32 x (of_int binary32 (pos 7))) ≡ lt plus_zero x
by_7 nan p h n = absurd p
by_7 (inf s) p h n = absurd p
by_7 (fin s zero e) p h n = absurd (a_zero s e n)
by_7 (fin s (suc m) e) p h n =
    ap (λ (y : Float). lt plus_zero (mul binary32 (fin s (suc m) e) y)) seven ∙ times_7 s false m e h ∙ ap not (unlike_plus s) ∙ sym (own_sign s m e)

pub by_minus_7 : (x : Float) → T (finite x) → T (fits binary32 x) → T (not (eq x plus_zero)) → lt plus_zero (mul binary32 x (of_int binary32 (negsuc 6))) ≡ not (lt plus_zero x)
by_minus_7 nan p h n = absurd p
by_minus_7 (inf s) p h n = absurd p
by_minus_7 (fin s zero e) p h n = absurd (a_zero s e n)
by_minus_7 (fin s (suc m) e) p h n =
    ap (λ (y : Float). lt plus_zero (mul binary32 (fin s (suc m) e) y)) minus_seven ∙ times_7 s true m e h ∙ ap not (unlike_minus s ∙ sym (own_sign s m e))
