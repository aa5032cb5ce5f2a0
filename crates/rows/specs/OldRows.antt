-- Document 02, Change 10: rows of six bytes beside document 01's of four, and those of empty and of no tiling. Definitions only.
use Rattle.std.specs.Prelude.{ℕ, ◌+◌, ◌*◌, ◌≡◌, List, [], ◌∷◌, T, take}
use Rattle.cube.specs.Bits.{bit_of}
use Rattle.notes.specs.declared.Notes.{Notes}
use Rattle.tilings.specs.Plan.{Chosen, empty, no_tiling, tiling, Reached, reach}
use Rattle.choice.specs.Ranges.{in_ranges}
use Rattle.rows.specs.Rows.{bytes_of}

-- document 01, 'List': the four bytes of a choice
abbrev pub old_bytes_by : Chosen → ℕ → List ℕ
old_bytes_by empty unsettled = 0 ∷ 0 ∷ 0 ∷ 0 ∷ []
old_bytes_by (no_tiling c sub) unsettled = 255 ∷ c ∷ sub ∷ 0 ∷ []
old_bytes_by (tiling code row column centre) unsettled = code ∷ row ∷ column ∷ (bit_of centre + 2 * unsettled) ∷ []

-- the old row is the first four bytes of the new
abbrev pub OldRows : Type 0
OldRows = (r : Reached) → take 4 (bytes_of r) ≡ old_bytes_by r.choice r.notes.unsettled

-- empty and no tiling put 0 for unmatched; readings are 0 and 6
pub record BareRows : Type 0 where
  pub empties : (case : ℕ) (m : Notes) → T (in_ranges case (reach empty m)) → bytes_of (reach empty m) ≡ 0 ∷ 0 ∷ 0 ∷ 0 ∷ 0 ∷ 0 ∷ []
  pub untiled : (case c sub : ℕ) (m : Notes) → T (in_ranges case (reach (no_tiling c sub) m)) → bytes_of (reach (no_tiling c sub) m) ≡ 255 ∷ c ∷ sub ∷ 0 ∷ 0 ∷ 6 ∷ []
