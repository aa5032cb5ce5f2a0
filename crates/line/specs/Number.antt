-- Document 01, 'Program': a decimal in -128..127, no plus, no needless zero, no -0. Definitions only.
use Rattle.std.specs.Prelude.{ℕ, ◌+◌, ◌-◌, ◌*◌, cond, ◌&&◌, List, eqb, ltb, leb, ℤ, pos, negsuc, Option, Some, None, length, get_or, drop}

-- a digit's value, and 10 for any other byte
unfoldable pub decimal_digit : ℕ → ℕ
decimal_digit b = cond (leb 48 b && leb b 57) (b - 48) 10

-- digits as a number, the first the highest; 1000 where one is none, or where the first of several is 0
unfoldable pub one_digit : ℕ → ℕ
one_digit a = cond (ltb a 10) a 1000

unfoldable pub two_digits : ℕ → ℕ → ℕ
two_digits a b = cond (ltb 0 a && ltb a 10 && ltb b 10) (10 * a + b) 1000

unfoldable pub three_digits : ℕ → ℕ → ℕ → ℕ
three_digits a b c = cond (ltb 0 a && ltb a 10 && ltb b 10 && ltb c 10) (100 * a + 10 * b + c) 1000

-- a whole number below 1000, and 1000 for any other text
unfoldable pub whole_of : List ℕ → ℕ
whole_of text =
    let digit : ℕ → ℕ = λ i. decimal_digit (get_or text i 0) in
    cond (eqb (length text) 1) (one_digit (digit 0))
    (cond (eqb (length text) 2) (two_digits (digit 0) (digit 1))
    (cond (eqb (length text) 3) (three_digits (digit 0) (digit 1) (digit 2)) 1000))

-- a text as a number, where it is one; 45 is '-'
unfoldable pub signed_of : List ℕ → Option ℤ
signed_of text =
    let n = whole_of (drop 1 text) in
    let m = whole_of text in
    cond (eqb (get_or text 0 0) 45)
    (cond (leb 1 n && leb n 128) (Some (negsuc (n - 1))) None)
    (cond (leb m 127) (Some (pos m)) None)
