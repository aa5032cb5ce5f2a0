-- A cube's answers, which plans are followed over, and the choices of the code by document 01's numbers. Definitions only.
use Rattle.std.specs.Prelude.{Bool, cond, ℤ, pos, negsuc}
use Rattle.cube.specs.declared.Cube.{Cube}
use Rattle.face.specs.Face.{face_of}
use Rattle.interior.specs.Interior.{inside_of}
use Rattle.thirteen.specs.Thirteen.{case13_of}
use Rattle.tilings.specs.declared.Choice.{Choice}
use Rattle.tilings.specs.declared.Choice.TheVariants.{Empty, Untiled, Tiled}
use Rattle.tilings.specs.declared.Counted.{Counted}
use Rattle.tilings.specs.Plan.{Answers, Chosen, empty, no_tiling, tiling, Reached, reach}

-- what a cube answers to a plan's questions
abbrev pub answers_of : Cube → Answers
answers_of q = record { faces = face_of q; insides = inside_of q; insides13 = case13_of q }

-- a choice of the code by document 01's numbers
abbrev pub chosen : Choice → Chosen
chosen Empty = empty
chosen (Untiled c sub) = no_tiling c sub
chosen (Tiled code row column centre) = tiling code row column centre

-- with what was counted
abbrev pub reached : Counted → Reached
reached r = reach (chosen r.choice) r.notes

-- the column s of the TEST tables is 7 or -7
abbrev pub side_of : Bool → ℤ
side_of positive = cond positive (pos 7) (negsuc 6)
