-- How the code of the face test keeps its tables. Definitions only.
use Rattle.std.specs.Prelude.{ℕ, cond, List, [], ◌∷◌, map, ℤ, nat_abs, Option, Some, None}
use Rattle.cube.specs.declared.Cube.{Cube}
use Rattle.cube.specs.Corners.{corner_of}
use Rattle.face.specs.declared.Square.{Square}
use Rattle.face.specs.Face.{face_corner, is_face}

-- |face|, where there is such a face
abbrev pub place_of : ℤ → Option ℕ
place_of n = cond (is_face n) (Some (nat_abs n)) None

-- corners a, b, c and d of a face
abbrev pub row_of : ℤ → List ℕ
row_of n = map (face_corner n) (0 ∷ 1 ∷ 2 ∷ 3 ∷ [])

-- the values at a face's corners
abbrev pub square_of : Cube → ℤ → Square
square_of q n = record { a = corner_of q (face_corner n 0); b = corner_of q (face_corner n 1); c = corner_of q (face_corner n 2); d = corner_of q (face_corner n 3) }
