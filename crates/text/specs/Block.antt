-- The program over an input that comes in blocks: what a block comes to, and that blocks join to the run of the whole. Definitions only.
use Rattle.std.specs.Prelude.{ℕ, suc, ◌+◌, ◌≡◌, Bool, true, false, cond, eqb, leb, length}
use mathlib.Core.List.{List, [], ◌∷◌, ◌++◌, foldr}
use Rattle.answer.specs.Answer.{Reply, answer, refusal, reply_to, refused_line}
use Rattle.answer.specs.Room.{line_room}
use Rattle.text.specs.Run.{at_end, run_from, run}

-- room for what a block comes to beyond its own length: an answer, and 16 bytes for each of the lines 0 and 1, which
-- ask for the names: with their newlines the output's have so many more than the input's
abbrev pub block_room : ℕ
block_room = 32 + line_room

-- what was written, the part line that is left, its number, and whether it was the end
pub record Block : Type 0 where
  pub written : List ℕ
  pub left : List ℕ
  pub number : ℕ
  pub over : Bool

abbrev pub block : List ℕ → List ℕ → ℕ → Bool → Block
block written left number over = record { written = written; left = left; number = number; over = over }

abbrev pub stopped : ℕ → ℕ → Block
stopped why number = block (refused_line why number) [] number true

-- a block behind a text
abbrev pub behind : List ℕ → Block → Block
behind text x = block (text ++ x.written) x.left x.number x.over

abbrev pub after : Reply → ℕ → Block → Block
after (answer text) number next = behind text next
after (refusal why) number next = stopped why number

-- no line that is accepted is longer than 81 bytes, `-128 -128` and eight corners: a part line that is longer is refused whatever comes
unfoldable pub block_from : ℕ → List ℕ → List ℕ → Block
block_from number part [] = cond (leb 82 (length part)) (stopped 8 number) (block [] part number false)
block_from number part (b ∷ bs) = cond (eqb b 10) (after (reply_to number part) number (block_from (suc number) [] bs)) (block_from number (part ++ (b ∷ [])) bs)

-- a block, from the beginning of line `number` on
unfoldable pub block_of : ℕ → List ℕ → Block
block_of number input = block_from number [] input

-- what comes out after a block
unfoldable pub onward : Block → List ℕ → List ℕ
onward x rest = cond x.over [] (run_from x.number [] (x.left ++ rest))

-- what a block writes, followed by the run of what is left and the rest, is the run of the whole
abbrev pub Composes : ℕ → List ℕ → Type 0
Composes number input = (rest : List ℕ) → (block_of number input).written ++ onward (block_of number input) rest ≡ run_from number [] (input ++ rest)

-- the blocks of an input one after the other, each behind the part line that the last one left
unfoldable pub run_blocks : ℕ → List ℕ → List (List ℕ) → List ℕ
run_blocks number part [] = at_end number part
run_blocks number part (input ∷ inputs) =
    let x = block_of number (part ++ input) in
    x.written ++ cond x.over [] (run_blocks x.number x.left inputs)

-- however an input is cut into blocks, what is written is the run of the whole
abbrev pub BlocksJoin : Type 0
BlocksJoin = (inputs : List (List ℕ)) → run_blocks 1 [] inputs ≡ run (foldr ◌++◌ [] inputs)
