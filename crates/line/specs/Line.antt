-- Document 01, 'Program': a line of two decimals and eight corners, single spaces, as it is parsed. The form as document 01 writes it is `line_of` in
-- Written.antt, and `WrittenBack` and `OnlyWritten` there say that just this is parsed. Definitions only.
use Rattle.std.specs.Prelude.{ℕ, suc, ◌+◌, ◌-◌, ◌*◌, Bool, true, cond, ◌&&◌, eqb, ltb, ℤ, Option, Some, None, length, get_or, take, drop}
use mathlib.Core.List.{List, [], ◌∷◌, map, foldr}
use Rattle.scan.specs.Bytes.{index_of}
use Rattle.cube.specs.declared.Cube.{Cube}
use Rattle.cube.specs.Corners.{cube}
use Rattle.hex_digits.specs.Hex.{word_of}
use Rattle.line.specs.declared.Line.{Line}
use Rattle.line.specs.Number.{signed_of}

-- a line: its case, configuration and cube, or the number of its refusal
pub data Parsed : Type 0 where
  given : ℤ → ℤ → Cube → Parsed
  refused : ℕ → Parsed

-- a malformed line is refusal 8
abbrev pub malformed : Parsed
malformed = refused 8

-- the lines of the code by document 01's values and number
abbrev pub parsed : Option Line → Parsed
parsed (Some line) = given line.case line.configuration line.cube
parsed None = malformed

-- corner k of the line's last 72 bytes: a space and eight hex digits; 2^32 where it is not so
unfoldable pub corner_bits : List ℕ → ℕ → ℕ
corner_bits tail k = cond (eqb (get_or tail (9 * k) 0) 32) (word_of tail (9 * k + 1)) 0x100000000

unfoldable pub have_corners : List ℕ → Bool
have_corners tail = foldr ◌&&◌ true (map (λ k. ltb (corner_bits tail k) 0x100000000) (0 ∷ 1 ∷ 2 ∷ 3 ∷ 4 ∷ 5 ∷ 6 ∷ 7 ∷ []))

unfoldable pub cube_in : List ℕ → Cube
cube_in tail =
    let bits = corner_bits tail in
    cube (bits 0) (bits 1) (bits 2) (bits 3) (bits 4) (bits 5) (bits 6) (bits 7)

unfoldable pub line_from : Option ℤ → Option ℤ → List ℕ → Parsed
line_from (Some case) (Some configuration) tail = cond (have_corners tail) (given case configuration (cube_in tail)) malformed
line_from (Some case) None tail = malformed
line_from None configuration tail = malformed

-- a line without its newline. Its last 72 bytes are the corners; what comes before is cut at its first space
unfoldable pub parse_line : List ℕ → Parsed
parse_line line =
    let n = length line - 72 in
    let head = take n line in
    let k = index_of 32 head in
    line_from (signed_of (take k head)) (signed_of (drop (suc k) head)) (drop n line)
