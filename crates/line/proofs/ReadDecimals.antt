-- A text that is read as a number is that number's text, and the number is in -128..127. Assumes nothing.
use mathlib.Core.Path.{◌≡◌, refl, sym, ap, subst, ◌∙◌}
use mathlib.Core.Bool.{Bool, true, false, cond}
use mathlib.Core.List.{List, [], ◌∷◌, ◌++◌}
use Prim.Native.Nat.{ℕ, suc, ◌+◌, ◌-◌, ◌*◌, ◌/◌, ◌%◌, ◌<◌}
use native.Mathlib.Omega.{arith}
use lib.Dec.{T, eqb, ltb, leb, lt→ltb}
use lib.IntN.{ℤ, pos, negsuc}
use borrow.Author.Tests.{ltb-true, leb-true, eqb-true}
use Rattle.hex_digits.proofs.Digits.{first, second, from_to, not_before}
use Rattle.put.specs.Decimal.{decimal}
use Rattle.put.proofs.Digits.{decimal_one, decimal_more}
use Rattle.std.proofs.Common.{Option, Some, None}
use Rattle.line.specs.Number.{decimal_digit, one_digit, two_digits, three_digits, whole_of, signed_of}
use Rattle.line.specs.Written.{in_byte, signed_text}
use Rattle.line.proofs.Digits.{passed, a_digit, one_taken, are_two, two_taken, two_bounds, are_three, three_taken, three_bounds, of_more}
use Rattle.line.proofs.Decimals.{nothing}

digit_byte : (b : ℕ) → decimal_digit b < 10 → b ≡ 48 + decimal_digit b
unfolding decimal_digit
digit_byte b h =
    let t = passed (from_to 48 57 b) (b - 48) 10 h in
    let l = not_before 48 57 b t in
    omega (arith, a_digit b t)

-- ---- the digits of a number, one more at a time
one_more : (n d : ℕ) → 0 < n → d < 10 → decimal (10 * n + d) ≡ decimal n ++ ((48 + d) ∷ [])
one_more n d h l =
    let q : (10 * n + d) / 10 ≡ n = omega arith in
    let r : (10 * n + d) % 10 ≡ d = omega arith in
    decimal_more (10 * n + d) (omega arith) ∙ rw (q, r)

one_text : (a : ℕ) → one_digit (decimal_digit a) < 1000 → a ∷ [] ≡ decimal (one_digit (decimal_digit a))
unfolding one_digit
one_text a h =
    let l = ltb-true (decimal_digit a) 10 (passed (ltb (decimal_digit a) 10) (decimal_digit a) 1000 h) in
    ap (λ x. x ∷ []) (digit_byte a l) ∙ sym (decimal_one (decimal_digit a) l) ∙ ap decimal (one_taken (decimal_digit a) l)

two_text : (a b : ℕ) → two_digits (decimal_digit a) (decimal_digit b) < 1000 → a ∷ b ∷ [] ≡ decimal (two_digits (decimal_digit a) (decimal_digit b))
unfolding two_digits
two_text a b h =
    let d = decimal_digit a in
    let e = decimal_digit b in
    let t = passed (are_two d e) (10 * d + e) 1000 h in
    let l = two_bounds d e t in
    let digits : a ∷ b ∷ [] ≡ (48 + d) ∷ (48 + e) ∷ [] = λ i. digit_byte a l.1 i ∷ digit_byte b l.2 i ∷ [] in
    let ten : decimal (10 * d + e) ≡ (48 + d) ∷ (48 + e) ∷ [] = one_more d e l.0 l.2 ∙ rw (decimal_one d l.1) in
    digits ∙ sym ten ∙ ap decimal (two_taken d e t)

three_text : (a b c : ℕ) → three_digits (decimal_digit a) (decimal_digit b) (decimal_digit c) < 1000
    → a ∷ b ∷ c ∷ [] ≡ decimal (three_digits (decimal_digit a) (decimal_digit b) (decimal_digit c))
unfolding three_digits
three_text a b c h =
    let d = decimal_digit a in
    let e = decimal_digit b in
    let f = decimal_digit c in
    let t = passed (are_three d e f) (100 * d + 10 * e + f) 1000 h in
    let l = three_bounds d e f t in
    let digits : a ∷ b ∷ c ∷ [] ≡ (48 + d) ∷ (48 + e) ∷ (48 + f) ∷ [] = λ i. digit_byte a l.1 i ∷ digit_byte b l.2 i ∷ digit_byte c l.3 i ∷ [] in
    let sum : 10 * (10 * d + e) + f ≡ 100 * d + 10 * e + f = omega arith in
    let ten : decimal (10 * d + e) ≡ (48 + d) ∷ (48 + e) ∷ [] = one_more d e l.0 l.2 ∙ rw (decimal_one d l.1) in
    let hundred : decimal (10 * (10 * d + e) + f) ≡ (48 + d) ∷ (48 + e) ∷ (48 + f) ∷ [] = one_more (10 * d + e) f (omega arith) l.3 ∙ rw ten in
    digits ∙ sym hundred ∙ ap decimal (sum ∙ three_taken d e f t)

whole_text : (text : List ℕ) → whole_of text < 1000 → text ≡ decimal (whole_of text)
unfolding whole_of
whole_text [] h = absurd (omega arith)
whole_text (a ∷ []) h = one_text a h
whole_text (a ∷ b ∷ []) h = two_text a b h
whole_text (a ∷ b ∷ c ∷ []) h = three_text a b c h
whole_text (a ∷ b ∷ c ∷ d ∷ text) h =
    absurd (omega (arith, of_more (a ∷ b ∷ c ∷ d ∷ text) (omega arith)))

-- ---- with its sign: what a text is, by the number that it is read as
abbrev pub IsText : List ℕ → Option ℤ → Type 0
IsText text (Some z) = T (in_byte z) × (text ≡ signed_text z)
IsText text None = Unit {0}

after_minus : (rest : List ℕ) (t : Bool) → from_to 1 128 (whole_of rest) ≡ t → IsText (45 ∷ rest) (cond t (Some (negsuc (whole_of rest - 1))) None)
unfolding signed_text
after_minus rest true e =
    let n = whole_of rest in
    let l = leb-true 1 n (first (leb 1 n) (leb n 128) e) in
    let m = leb-true n 128 (second (leb 1 n) (leb n 128) e) in
    let s : n ≡ suc (n - 1) = omega arith in
    (lt→ltb (n - 1) 128 (omega arith), ap (λ (text : List ℕ). 45 ∷ text) (whole_text rest (omega arith) ∙ ap decimal s))
after_minus rest false e = tt

no_minus : (text : List ℕ) (t : Bool) → leb (whole_of text) 127 ≡ t → IsText text (cond t (Some (pos (whole_of text))) None)
unfolding signed_text
no_minus text true e =
    let l = leb-true (whole_of text) 127 e in
    (lt→ltb (whole_of text) 128 (omega arith), whole_text text (omega arith))
no_minus text false e = tt

by_sign : (b : ℕ) (rest : List ℕ) (t : Bool) → eqb b 45 ≡ t
    → IsText (b ∷ rest) (
    cond t
    (cond (from_to 1 128 (whole_of rest)) (Some (negsuc (whole_of rest - 1))) None)
    (cond (leb (whole_of (b ∷ rest)) 127) (Some (pos (whole_of (b ∷ rest)))) None)
    )
by_sign b rest true e =
    let r = cond (from_to 1 128 (whole_of rest)) (Some (negsuc (whole_of rest - 1))) None in
    subst (λ x. IsText (x ∷ rest) r) (sym (eqb-true b 45 e)) (after_minus rest (from_to 1 128 (whole_of rest)) refl)
by_sign b rest false e = no_minus (b ∷ rest) (leb (whole_of (b ∷ rest)) 127) refl

pub read_text : (text : List ℕ) → IsText text (signed_of text)
unfolding signed_of
read_text [] = subst (IsText []) (nothing [] refl) tt
read_text (b ∷ rest) = by_sign b rest (eqb b 45) refl
