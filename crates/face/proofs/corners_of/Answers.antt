-- `face::corners_of` has the row of the face.
use Rattle.face.specs.Face.{face_corners}
use Rattle.face.proofs.Columns.{rowed, corners_bound}
use Rattle.face.proofs.corners_of.Goals as goal

pub returns : goal.returns
unfolding face_corners
returns c = let e = rowed _ _ _ c.place.ensures c.unwrap_or.ensures in record { row = e; corners = corners_bound _ _ e }
