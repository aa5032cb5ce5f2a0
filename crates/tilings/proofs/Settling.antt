-- What makes a choice, with what was counted. Assumes nothing.
use mathlib.Core.Path.{◌≡◌}
use Rattle.notes.specs.declared.Notes.{Notes}
use Rattle.tilings.specs.Plan.{Chosen, reach}

-- a choice with what the code has counted
pub counted_so : (x : Chosen) (m k : Notes) → m ≡ k → reach x m ≡ reach x k
counted_so x m k e = rw e
