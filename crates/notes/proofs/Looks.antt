-- What an edge reading counts, as code comes to it. Assumes nothing.
use mathlib.Core.Path.{◌≡◌, refl}
use mathlib.Core.Bool.{Bool, true, false, not}
use mir.Val.{bool_byte}
use Rattle.notes.specs.declared.Notes.{Notes}
use Rattle.notes.specs.Notes.{look_of}

pub noted : (b m : Bool) → ◌≡◌ {A = Notes} (record { unsettled = bool_byte b; unmatched = bool_byte (not m); readings = 1 }) (look_of b m)
noted true true = refl
noted true false = refl
noted false true = refl
noted false false = refl
