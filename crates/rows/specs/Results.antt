-- The code's outcome and row as `Rows` has them. Definitions only.
use Rattle.std.specs.Prelude as std
use Rattle.std.specs.Prelude.{ℕ, List, [], ◌∷◌, Ok, Err}
use Rattle.cube.specs.Refusals.{refusal_number}
use Rattle.notes.specs.declared.Notes.{Notes}
use Rattle.rows.specs.declared.ListRefused.{ListRefused}
use Rattle.rows.specs.declared.Row.{Row}
use Rattle.rows.specs.Rows.{Result, done, refused_at}

abbrev pub outcome_result : std.Result (Unit {0}) ListRefused → Result
outcome_result (Ok u) = done
outcome_result (Err r) = refused_at (refusal_number r.why) r.place

abbrev pub bytes_in : Row → List ℕ
bytes_in r = r.code ∷ r.row ∷ r.column ∷ r.rest ∷ r.unmatched ∷ r.readings ∷ []

-- a row with what was counted behind
abbrev pub filled : ℕ → ℕ → ℕ → ℕ → Notes → Row
filled code row column rest m = record { code = code; row = row; column = column; rest = rest; unmatched = m.unmatched; readings = m.readings }
