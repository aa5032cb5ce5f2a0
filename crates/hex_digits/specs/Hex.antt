-- Numbers in lower-case hex digits, the first digit the highest, at a place of a line. What is no number has the
-- value that comes after the greatest: 16 for a digit, 256 for two, 2^32 for eight. Definitions only.
use Rattle.std.specs.Prelude.{ℕ, ◌+◌, ◌-◌, ◌*◌, ◌&&◌, cond, List, [], ◌∷◌, Option, Some, None, ltb, leb, get_or}

-- from '0' to '9', and from 'a' to 'f'
unfoldable pub digit_of : ℕ → ℕ
digit_of b = cond (leb 48 b && leb b 57) (b - 48) (cond (leb 97 b && leb b 102) (b - 97 + 10) 16)

-- two numbers below the base as one
unfoldable pub joined : ℕ → ℕ → ℕ → ℕ
joined base high low = cond (ltb high base && ltb low base) (high * base + low) (base * base)

abbrev pub pair_of : List ℕ → ℕ → ℕ
pair_of line at = joined 16 (digit_of (get_or line at 0)) (digit_of (get_or line (at + 1) 0))

abbrev pub half_of : List ℕ → ℕ → ℕ
half_of line at = joined 256 (pair_of line at) (pair_of line (at + 2))

abbrev pub word_of : List ℕ → ℕ → ℕ
word_of line at = joined 65536 (half_of line at) (half_of line (at + 4))

-- what digits add to the number before them; none where one is no digit
unfoldable pub number_of : ℕ → List ℕ → Option ℕ
number_of n [] = Some n
number_of n (b ∷ bs) = cond (ltb (digit_of b) 16) (number_of (16 * n + digit_of b) bs) None
