-- The turns of a run, one after the other from the start. Definitions only.
use Rattle.std.specs.Prelude.{ℕ, ◌+◌, ◌-◌, ◌^◌, ◌≡◌, List, [], ◌∷◌, ◌++◌, ◌⊎◌, take, Bool, true, false, Some, None, Ok, Err}
use Rattle.text.specs.Run.{run}
use Rattle.mc33.specs.declared.Piece.{Piece}
use Rattle.mc33.specs.declared.part.Part.{Part}
use Rattle.mc33.specs.Kept.{State, comes_to, TurnedBy}

-- a loop has to end: so many turns are made at most
abbrev pub most_turns : ℕ
most_turns = 2 ^ 64 - 1

-- what is handed to the write where these bytes, or none, came behind the part line of line `number`
abbrev pub handed : ℕ → List ℕ → List ℕ → List ℕ
handed number part [] = comes_to (Piece.End number) part
handed number part (b ∷ bs) = comes_to (Piece.Block number) (part ++ (b ∷ bs))

abbrev pub going : State → Bool
going (Ok (Some s)) = true
going (Ok None) = false
going (Err why) = false

-- after so many turns, each from a state that goes on: what came in all, what is handed to the writes for it, the state, and what stands in the
-- room for a block; at first nothing is kept, and line 1 is to come; the last turn may have failed
pub data Ran : ℕ → List ℕ → List ℕ → State → List ℕ → Type 0 where
  begun : {s : Part} {buf : List ℕ} → s.have ≡ 0 → s.number ≡ 1 → Ran 0 [] [] (Ok (Some s)) buf
  turned : {k : ℕ} {came written : List ℕ} {s : Part} {r : State} {xs buf : List ℕ} (out more : List ℕ) → Ran k came written (Ok (Some s)) xs
      → TurnedBy more s xs r buf out → Ran (k + 1) (came ++ more) (written ++ handed s.number (take s.have xs) more) r buf

-- a run stops, or all turns are used; and where it stops and nothing failed, what was handed to the writes is the program's run of what came
pub record Finished (r : State) (buf : List ℕ) : Type 0 where
  pub turns : ℕ
  pub came : List ℕ
  pub written : List ℕ
  pub ran : Ran turns came written r buf
  pub ends : (going r ≡ false) ⊎ (turns ≡ most_turns)
  pub whole : r ≡ Ok None → written ≡ run came
