-- The line of a cube as it is written: `parse_line` gives it back, and reads nothing else. Definitions only.
use Rattle.std.specs.Prelude.{ℕ, zero, suc, ◌+◌, ◌-◌, ◌/◌, ◌%◌, ◌<◌, ◌≡◌, Bool, cond, List, [], ◌∷◌, ◌++◌, T, ltb, ℤ, pos, negsuc, length, drop}
use Rattle.cube.specs.declared.Cube.{Cube}
use Rattle.cube.specs.Corners.{cube}
use Rattle.put.specs.Decimal.{decimal}
use Rattle.line.specs.Line.{given, corner_bits, parse_line}

-- -128..127
abbrev pub in_byte : ℤ → Bool
in_byte (pos n) = ltb n 128
in_byte (negsuc n) = ltb n 128

unfoldable pub signed_text : ℤ → List ℕ
signed_text (pos n) = decimal n
signed_text (negsuc n) = 45 ∷ decimal (suc n)

-- a digit from '0' to '9', and from 'a' to 'f'
abbrev pub hex_digit : ℕ → ℕ
hex_digit d = cond (ltb d 10) (48 + d) (87 + d)

-- the last k hex digits of bits, the first the highest
unfoldable pub hex_text : ℕ → ℕ → List ℕ
hex_text zero bits = []
hex_text (suc k) bits = hex_text k (bits / 16) ++ (hex_digit (bits % 16) ∷ [])

-- a space and eight digits
abbrev pub corner : ℕ → List ℕ
corner bits = 32 ∷ hex_text 8 bits

unfoldable pub line_of : ℤ → ℤ → ℕ → ℕ → ℕ → ℕ → ℕ → ℕ → ℕ → ℕ → List ℕ
line_of case configuration a b c d e f g h =
    signed_text case ++ (32 ∷ signed_text configuration)
    ++ (corner a ++ (corner b ++ (corner c ++ (corner d ++ (corner e ++ (corner f ++ (corner g ++ corner h)))))))

-- the line of numbers in their ranges is read back
abbrev pub WrittenBack : Type 0
WrittenBack =
    (case configuration : ℤ) (a b c d e f g h : ℕ) → T (in_byte case) → T (in_byte configuration)
    → a < 0x100000000 → b < 0x100000000 → c < 0x100000000 → d < 0x100000000
    → e < 0x100000000 → f < 0x100000000 → g < 0x100000000 → h < 0x100000000
    → parse_line (line_of case configuration a b c d e f g h) ≡ given case configuration (cube a b c d e f g h)

-- line is the line of a case, a configuration and the corners of q
abbrev pub IsWritten : List ℕ → ℤ → ℤ → Cube → Type 0
IsWritten line case configuration q =
    let b = corner_bits (drop (length line - 72) line) in
    T (in_byte case) × (T (in_byte configuration)
    × ((line ≡ line_of case configuration (b 0) (b 1) (b 2) (b 3) (b 4) (b 5) (b 6) (b 7))
    × (q ≡ cube (b 0) (b 1) (b 2) (b 3) (b 4) (b 5) (b 6) (b 7))))

-- no other line is read
abbrev pub OnlyWritten : Type 0
OnlyWritten =
    (line : List ℕ) (case configuration : ℤ) (q : Cube) → parse_line line ≡ given case configuration q → IsWritten line case configuration q
