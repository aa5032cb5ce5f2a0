-- What is kept between two blocks, and what a turn comes to. Definitions only.
use Rattle.std.specs.Prelude.{ℕ, ◌^◌, ◌≤◌, ◌<◌, ◌≡◌, true, false, List, [], ◌∷◌, ◌++◌, ◌⊎◌, length, take, drop, Option, Some, None, Result, Ok, Err}
use Rattle.std.specs.declared.io.Error.{Error}
use Rattle.text.specs.Run.{at_end}
use Rattle.text.specs.Block.{Block, block_of}
use Rattle.mc33.specs.declared.Failure.{Failure}
use Rattle.mc33.specs.declared.Piece.{Piece}
use Rattle.mc33.specs.declared.part.Part.{Part}

-- the lines are counted up to here: a block that begins at this line is not answered
abbrev pub most_lines : ℕ
most_lines = 2 ^ 63

-- after a turn: the part line that is kept, and the program goes on; or it stops; or something failed, and it stops
abbrev pub State : Type 0
State = Result (Option Part) Failure

-- this failed, or P holds
abbrev pub OrFailed : Failure → State → Type 0 → Type 0
OrFailed why r P = (r ≡ Err why) ⊎ P

-- line `number` cannot be counted; or it can, and then the write failed or P holds
abbrev pub Counted : ℕ → State → Type 0 → Type 0
Counted number r P = ((most_lines ≤ number) × (r ≡ Err Failure.Count)) ⊎ ((number < most_lines) × OrFailed Failure.Write r P)

-- what is written for a block of line `number`, or at the input's end in line `number`
abbrev pub comes_to : Piece → List ℕ → List ℕ
comes_to (Piece.End number) part = at_end number part
comes_to (Piece.Block number) input = (block_of number input).written

-- the input is refused at `line`: by the block of line `number`, or at the input's end in line `number`
abbrev pub RefusedAt : Piece → List ℕ → ℕ → Type 0
RefusedAt (Piece.End number) part line = (1 ≤ length (at_end number part)) × (line ≡ number)
RefusedAt (Piece.Block number) input line = ((block_of number input).over ≡ true) × (line ≡ (block_of number input).number)

-- after the block x: the program goes on exactly where x was not the end, and then keeps the part line that x left, and its number
abbrev pub Left : State → List ℕ → Block → Type 0
Left (Ok (Some s)) buf x = (x.over ≡ false) × ((take s.have buf ≡ x.left) × (s.number ≡ x.number))
Left (Ok None) buf x = x.over ≡ true
Left (Err why) buf x = ⊥

-- after the block x: out holds what x wrote, and what x left is kept
pub record Kept (r : State) (buf out : List ℕ) (x : Block) : Type 0 where
  pub text : out ≡ x.written
  pub left : Left r buf x

-- the input ends behind the part line of line `number`: the write failed, or out holds what the input's end comes to, and the program stops
abbrev pub Ended : ℕ → List ℕ → State → List ℕ → Type 0
Ended number part r out = OrFailed Failure.Write r ((r ≡ Ok None) × (out ≡ at_end number part))

-- what a read put behind the part line of line `number`: none, and the input has ended; or some, and the block is the two together
abbrev pub Came : List ℕ → ℕ → List ℕ → State → List ℕ → List ℕ → Type 0
Came [] number part r buf out = Ended number part r out
Came (b ∷ bs) number part r buf out = Counted number r (Kept r buf out (block_of number (part ++ (b ∷ bs))))

-- a read that told `got` left xs: it failed, and the program stops; or that many bytes came
abbrev pub Told : Result ℕ Error → Part → List ℕ → State → List ℕ → List ℕ → Type 0
Told (Err e) s xs r buf out = r ≡ Err Failure.Read
Told (Ok n) s xs r buf out = Came (take n (drop s.have xs)) s.number (take s.have xs) r buf out

-- a turn from the part line `s`, with xs in the room for a block: the read failed, or these bytes came behind the part line that xs held
abbrev pub TurnedBy : List ℕ → Part → List ℕ → State → List ℕ → List ℕ → Type 0
TurnedBy came s xs r buf out = OrFailed Failure.Read r (Came came s.number (take s.have xs) r buf out)

abbrev pub Turned : Part → List ℕ → State → List ℕ → List ℕ → Type 0
Turned s xs r buf out = (came : List ℕ) × TurnedBy came s xs r buf out
