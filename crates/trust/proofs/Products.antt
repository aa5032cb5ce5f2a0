-- binary64 holds the product of two f32 exactly: it has at most 48 digits, and they reach neither end of the exponents. Assumes nothing.
use mathlib.Core.Path.{◌≡◌, refl, sym, ap, ◌∙◌, subst}
use mathlib.Core.Bool.{Bool}
use Prim.Native.Nat.{ℕ, ◌+◌, ◌*◌, ◌/◌, ◌^◌, ◌<◌}
use native.Mathlib.Nat.{lt_of_le_of_lt, le_of_lt, mul-pos, mul_assoc, mul_right_comm, mul-le-mul, mul-le-mul_right, mul-mul-mul_comm}
use lib.Dec.{T, lit<}
use lib.IntN.{ℤ, ◌*ℤ◌}
use lib.Pow.{pow-add}
use lib.Ieee.{Float, nan, inf, fin, binary32, binary64, prec, low, up, down, unlike, fits, round, mul}
use lib.Ieee.Exact.{HasValue, round_exact}
use lib.Ieee.Fits.{down_pos}
use lib.Ieee.Scale.{finite, overflow}
use Rattle.binary32.specs.Wholes.{signed, Exactly, whole_of}
use Rattle.binary32.proofs.Values.{Short, value_short, value_below}
use Rattle.binary32.proofs.Wholes.{signed_size, signed_mul, exactly_value, size_exactly, each_is_whole}

-- so many times 2 ^ -298 is a product of two f32
abbrev pub both : ℕ
both = low binary32 + low binary32

-- 2 ^ 298 times a fraction N / c is the product of two numbers that an f32 has: N / c is a value of binary64
rounded_whole : (s : Bool) (N c a b : ℕ) → 0 < c → N * 2 ^ both ≡ a * b * c → Short a → Short b → a < 2 ^ 277 → b < 2 ^ 277 → Exactly both (round binary64 s N c) (signed s (a * b))
rounded_whole s N c a b C e (p, i, l, ea) (q, j, m, eb) A B =
    let digits : a * b ≡ p * q * 2 ^ (i + j) = (λ z. ea z * eb z) ∙ mul-mul-mul_comm p (2 ^ i) q (2 ^ j) ∙ ap (λ (z : ℕ). p * q * z) (sym (pow-add 2 i j)) in
    let more : a * b * 2 ^ 776 ≡ p * q * 2 ^ (i + j + 776) = ap (λ (z : ℕ). z * 2 ^ 776) digits ∙ mul_assoc (p * q) (2 ^ (i + j)) (2 ^ 776) ∙ ap (λ (z : ℕ). p * q * z) (sym (pow-add 2 (i + j) 776)) in
    let few : p * q < 2 ^ prec binary64 = lt_of_le_of_lt (mul-le-mul (le_of_lt l) (le_of_lt m)) (lit< tt) in
    let below : p * q * 2 ^ (i + j + 776) < overflow binary64 =
    subst (λ (z : ℕ). z < overflow binary64) more (lt_of_le_of_lt (mul-le-mul_right (2 ^ 776) (mul-le-mul (le_of_lt A) (le_of_lt B))) (lit< tt)) in
    let num : N * 2 ^ low binary64 ≡ p * q * 2 ^ (i + j + 776) * c =
    ap (λ (z : ℕ). N * z) (pow-add 2 both 776) ∙ sym (mul_assoc N (2 ^ both) (2 ^ 776)) ∙ ap (λ (z : ℕ). z * 2 ^ 776) e ∙ mul_right_comm (a * b) c (2 ^ 776) ∙ ap (λ (z : ℕ). z * c) more in
    exactly_value both (round binary64 s N c) s N c (a * b) C (round_exact binary64 s N c (p * q) (i + j + 776) C few below num) e

-- an f32 as so many times 2 ^ -149
whole : (u : Bool) (k : ℕ) (g : ℤ) → T (fits binary32 (fin u k g)) → HasValue (fin u k g) u (k * up g * 2 ^ low binary32 / down g) (2 ^ low binary32)
unfolding whole_of
whole u k g f =
    (refl, (size_exactly (low binary32) (fin u k g) (whole_of (fin u k g)) (each_is_whole (fin u k g) f tt)).1 ∙ ap (λ (z : ℕ). z * down g) (signed_size u (k * up g * 2 ^ low binary32 / down g)))

pub exact_product : (x y : Float) → T (fits binary32 x) → T (fits binary32 y) → T (finite x) → T (finite y) → Exactly both (mul binary64 x y) (whole_of x *ℤ whole_of y)
unfolding mul whole_of
exact_product nan y fx fy tx ty = absurd tx
exact_product (inf s) y fx fy tx ty = absurd tx
exact_product (fin s m e) nan fx fy tx ty = absurd ty
exact_product (fin s m e) (inf t) fx fy tx ty = absurd ty
exact_product (fin s m e) (fin t n d) fx fy tx ty =
    let a = m * up e * 2 ^ low binary32 / down e in
    let b = n * up d * 2 ^ low binary32 / down d in
    let x : HasValue (fin s m e) s a (2 ^ low binary32) = whole s m e fx in
    let y : HasValue (fin t n d) t b (2 ^ low binary32) = whole t n d fy in
    let units : m * up e * (n * up d) * 2 ^ both ≡ a * b * (down e * down d) =
    ap (λ (z : ℕ). m * up e * (n * up d) * z) (pow-add 2 (low binary32) (low binary32)) ∙ mul-mul-mul_comm (m * up e) (n * up d) (2 ^ low binary32) (2 ^ low binary32) ∙ (λ i. x.1 i * y.1 i) ∙ mul-mul-mul_comm a (down e) b (down d) in
    subst (λ (Z : ℤ). Exactly both (round binary64 (unlike s t) (m * up e * (n * up d)) (down e * down d)) Z) (sym (signed_mul s t a b))
    (rounded_whole (unlike s t) (m * up e * (n * up d)) (down e * down d) a b (mul-pos (down_pos e) (down_pos d)) units (value_short (fin s m e) s a fx x) (value_short (fin t n d) t b fy y) (value_below (fin s m e) s a fx x) (value_below (fin t n d) t b fy y))
