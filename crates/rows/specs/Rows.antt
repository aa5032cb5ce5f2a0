-- Document 01, 'List', and document 02, Change 10: one cube of a list, its choice or refusal, and its row. Definitions only.
use Rattle.std.specs.Prelude.{ℕ, ◌+◌, ◌*◌, List, [], ◌∷◌, ℤ, pos, get_or, Float}
use Rattle.cube.specs.Bits.{bit_of}
use Rattle.notes.specs.declared.Notes.{Notes}
use Rattle.tilings.specs.Plan.{Chosen, empty, no_tiling, tiling, Reached}
use Rattle.choice.specs.Choice.{refusal_of, choice_of}
use Rattle.reader.specs.Reader.{cube_at}

-- the answer bytes of a cube
abbrev pub width : ℕ
width = 6

-- the number of cube i's refusal, 0 where there is none
unfoldable pub refusal_at : List Float → List ℤ → ℕ → ℕ
refusal_at xs ns i = refusal_of (get_or ns (2 * i) (pos 0)) (get_or ns (2 * i + 1) (pos 0)) (cube_at xs i)

-- the choice for cube i
unfoldable pub choice_at : List Float → List ℤ → ℕ → Reached
choice_at xs ns i = choice_of (get_or ns (2 * i) (pos 0)) (get_or ns (2 * i + 1) (pos 0)) (cube_at xs i)

-- code, row, column, centre + 2 × unsettled, unmatched, readings; empty is zeros, no tiling 255, configuration, sub-configuration, 0; then what was counted
abbrev bytes_by : Chosen → Notes → List ℕ
bytes_by empty m = 0 ∷ 0 ∷ 0 ∷ 0 ∷ m.unmatched ∷ m.readings ∷ []
bytes_by (no_tiling c sub) m = 255 ∷ c ∷ sub ∷ 0 ∷ m.unmatched ∷ m.readings ∷ []
bytes_by (tiling code row column centre) m = code ∷ row ∷ column ∷ (bit_of centre + 2 * m.unsettled) ∷ m.unmatched ∷ m.readings ∷ []

-- a choice's row
unfoldable pub bytes_of : Reached → List ℕ
bytes_of r = bytes_by r.choice r.notes

-- what a list comes to: done, or the number of a refusal and the place of its cube
pub data Result : Type 0 where
  done : Result
  refused_at : ℕ → ℕ → Result
