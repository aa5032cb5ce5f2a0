-- Document 01, 'Program': what comes out for a whole input. Definitions only.
use Rattle.std.specs.Prelude.{ℕ, suc, Bool, true, false, cond, ◌&&◌, List, [], ◌∷◌, ◌++◌, eqb, ltb}
use Rattle.answer.specs.Answer.{Reply, answer, refusal, reply_to, refused_line}

abbrev pub is_empty : List ℕ → Bool
is_empty [] = true
is_empty (b ∷ bs) = false

-- the input ends in line `number`, of which `part` has come: nothing more where the line has not begun, but every line ends by a newline and there is a first
unfoldable pub at_end : ℕ → List ℕ → List ℕ
at_end number part = cond (is_empty part && ltb 1 number) [] (refused_line 8 number)

-- what a line comes to, then the rest; at the first refusal the end
unfoldable pub follow : Reply → ℕ → List ℕ → List ℕ
follow (answer text) number rest = text ++ rest
follow (refusal why) number rest = refused_line why number

-- from line `number` on, of which `part` has come; 10 is the newline
unfoldable pub run_from : ℕ → List ℕ → List ℕ → List ℕ
run_from number part [] = at_end number part
run_from number part (b ∷ bs) = cond (eqb b 10) (follow (reply_to number part) number (run_from (suc number) [] bs)) (run_from number (part ++ (b ∷ [])) bs)

-- the program
unfoldable pub run : List ℕ → List ℕ
run input = run_from 1 [] input
