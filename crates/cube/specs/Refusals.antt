-- Document 01, 'What is refused': the number of each refusal. Document 02, 'Change 12', takes 9 out, and it is not given again. Definitions only.
use Rattle.std.specs.Prelude.{ℕ}
use Rattle.cube.specs.declared.Refusal.{Refusal}
use Rattle.cube.specs.declared.Refusal.TheVariants.{NoCase, NoConfiguration, NotFinite, NoFace, NoEdge, UnevenLists, NoRoom, Malformed}

abbrev pub refusal_number : Refusal → ℕ
refusal_number NoCase = 1
refusal_number NoConfiguration = 2
refusal_number NotFinite = 3
refusal_number NoFace = 4
refusal_number NoEdge = 5
refusal_number UnevenLists = 6
refusal_number NoRoom = 7
refusal_number Malformed = 8
