-- Document 01, 'A choice', and document 02, Changes 4 and 7: what is counted on the way to a choice. Definitions only.
use Rattle.std.specs.Prelude.{ℕ, ◌+◌, Bool, cond}
use Rattle.notes.specs.declared.Notes.{Notes}

abbrev pub no_notes : Notes
no_notes = record { unsettled = 0; unmatched = 0; readings = 0 }

-- what n face tests count, and likewise case-13 tests
abbrev pub tests_of : ℕ → Notes
tests_of n = record { unsettled = 0; unmatched = 0; readings = n }

-- what an edge reading counts: itself, whether it is unsettled, and whether a pair matched where its edge was picked
abbrev pub look_of : Bool → Bool → Notes
look_of unsettled matched = record { unsettled = cond unsettled 1 0; unmatched = cond matched 0 1; readings = 1 }

abbrev pub added : Notes → Notes → Notes
added x y = record { unsettled = x.unsettled + y.unsettled; unmatched = x.unmatched + y.unmatched; readings = x.readings + y.readings }

-- all that was counted
abbrev pub total : Notes → ℕ
total x = x.unsettled + x.unmatched + x.readings
