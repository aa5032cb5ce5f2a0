-- What a call did to the bytes that a reader has left and that a writer holds, where they are known. Definitions only.
use Rattle.std.specs.Prelude.{ℕ, ◌≡◌, ◌<◌, List, length, take, Option, Result, Ok, Err}
use Rattle.std.specs.Io.KnownBytes.{Keeps, Appends, Consumes, IsAtEnd}
use Rattle.std.specs.declared.io.Error.{Error}

-- a read that answered n took the bytes that stand at the start of the room, none only at the end or with no room; or it failed, and took none
abbrev pub Takes : Option (List ℕ) → Option (List ℕ) → Result ℕ Error → List ℕ → Type 0
Takes old new (Ok n) room = Consumes old new (take n room) × (n ≡ 0 → 0 < length room → IsAtEnd new)
Takes old new (Err e) room = Keeps old new

-- a write that answered n put the text's first n bytes behind those that were there; or it failed, and put none
abbrev pub Puts : Option (List ℕ) → Option (List ℕ) → Result ℕ Error → List ℕ → Type 0
Puts old new (Ok n) text = Appends old new (take n text)
Puts old new (Err e) text = Keeps old new
