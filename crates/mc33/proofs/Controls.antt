-- The limits of a run, in digits: 2^63 lines and 2^64 - 1 turns; and the line that a refusal tells, as document 01, 'Program', counts them. Assumes nothing.
use mathlib.Core.Path.{◌≡◌, refl}
use mathlib.Core.List.{[], ◌∷◌, ◌++◌}
use native.Mathlib.Omega.{arith}
use lib.ListN.{length, replicate}
use Rattle.put.specs.Decimal.{decimal, decimal_in}
use Rattle.answer.specs.Answer.{input_names, same, refused_word, refused_line, reply_to}
use Rattle.text.specs.Run.{at_end}
use Rattle.text.specs.Block.{block_of, block_from}
use Rattle.mc33.specs.declared.Piece.{Piece}
use Rattle.mc33.specs.Kept.{most_lines, RefusedAt}
use Rattle.mc33.specs.Runs.{most_turns}

limits : most_lines ∷ most_turns ∷ [] ≡ 9223372036854775808 ∷ 18446744073709551615 ∷ []
limits = refl

-- `refused 8 3` and a newline
part_of_line_3 : length (at_end 3 (51 ∷ [])) ≡ 12
unfolding at_end refused_line refused_word decimal decimal_in
part_of_line_3 = refl

-- an input that ends within line 3 is refused there
end_told : RefusedAt (Piece.End 3) (51 ∷ []) 3
end_told = (omega (arith, part_of_line_3), refl)

-- from line 1 on, the names and 82 bytes of another line: refused at line 2
block_told : RefusedAt (Piece.Block 1) (input_names ++ (10 ∷ replicate 82 120)) 2
unfolding block_of block_from reply_to same input_names
block_told = (refl, refl)
