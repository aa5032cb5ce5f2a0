-- A line as it is written is read back whole: `parse_written`. Assumes nothing.
use mathlib.Core.Path.{◌≡◌, refl, ◌∙◌}
use mathlib.Core.List.{List, ◌∷◌, ◌++◌}
use Prim.Native.Nat.{ℕ, suc, ◌-◌, ◌<◌}
use native.Mathlib.Numerals.{add-one}
use native.Mathlib.Omega.{arith}
use lib.Dec.{T}
use lib.IntN.{ℤ}
use lib.ListN.{length, take, drop, length-append}
use lib.Seq.{take-append_seam, drop-append_seam, drop-append-add}
use borrow.Author.Tests.{lt-ltb}
use Rattle.scan.specs.Bytes.{index_of}
use Rattle.cube.specs.Corners.{cube}
use Rattle.std.proofs.Common.{Some}
use Rattle.line.specs.Number.{signed_of}
use Rattle.line.specs.Line.{given, corner_bits, have_corners, cube_in, line_from, parse_line}
use Rattle.line.specs.Written.{in_byte, signed_text, hex_text, corner, line_of, WrittenBack}
use Rattle.line.proofs.WrittenDecimals.{signed_back, first_space}
use Rattle.line.proofs.WrittenWords.{word_back}

-- the line of a tail, by the bits of its corners
line_from_corners : (case configuration : ℤ) (tail : List ℕ) (a b c d e f g h : ℕ)
    → corner_bits tail 0 ≡ a → corner_bits tail 1 ≡ b → corner_bits tail 2 ≡ c → corner_bits tail 3 ≡ d
    → corner_bits tail 4 ≡ e → corner_bits tail 5 ≡ f → corner_bits tail 6 ≡ g → corner_bits tail 7 ≡ h
    → a < 0x100000000 → b < 0x100000000 → c < 0x100000000 → d < 0x100000000
    → e < 0x100000000 → f < 0x100000000 → g < 0x100000000 → h < 0x100000000
    → line_from (Some case) (Some configuration) tail ≡ given case configuration (cube a b c d e f g h)
unfolding line_from have_corners cube_in
line_from_corners case configuration tail a b c d e f g h ea eb ec ed ee ef eg eh la lb lc ld le lf lg lh =
    simp (ea, eb, ec, ed, ee, ef, eg, eh, lt-ltb)

-- ---- the line is cut where its parts were joined
parse_seam : (head tail : List ℕ) → length tail ≡ 72
    → parse_line (head ++ tail) ≡ line_from (signed_of (take (index_of 32 head) head)) (signed_of (drop (suc (index_of 32 head)) head)) tail
unfolding parse_line
parse_seam head tail h =
    let n : length (head ++ tail) - 72 ≡ length head = rw (length-append head tail, h) (omega arith) in
    rw (n, take-append_seam head tail, drop-append_seam head tail)

parse_head : (case configuration : ℤ) (tail : List ℕ) → T (in_byte case) → T (in_byte configuration) → length tail ≡ 72
    → parse_line (signed_text case ++ (32 ∷ signed_text configuration) ++ tail) ≡ line_from (Some case) (Some configuration) tail
parse_head case configuration tail h k l =
    let xs = signed_text case in
    let ys = signed_text configuration in
    parse_seam (xs ++ 32 ∷ ys) tail l
    ∙ rw (first_space ys case h, take-append_seam xs (32 ∷ ys), ← add-one (length xs), drop-append-add xs (32 ∷ ys) 1, signed_back case h, signed_back configuration k)

-- ---- the round trip
pub parse_written : WrittenBack
unfolding line_of hex_text corner_bits
parse_written case configuration a b c d e f g h x y la lb lc ld le lf lg lh =
    let tail = corner a ++ (corner b ++ (corner c ++ (corner d ++ (corner e ++ (corner f ++ (corner g ++ corner h)))))) in
    parse_head case configuration tail x y refl
    ∙ line_from_corners case configuration tail a b c d e f g h
    (word_back a la) (word_back b lb) (word_back c lc) (word_back d ld)
    (word_back e le) (word_back f lf) (word_back g lg) (word_back h lh)
    la lb lc ld le lf lg lh
