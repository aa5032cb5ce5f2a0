-- `two_faces::case_12` follows `plan12`.
use mathlib.Core.Path.{◌∙◌, ap}
use Rattle.notes.specs.Notes.{no_notes}
use Rattle.tilings.specs.Plan.{run}
use Rattle.tilings.specs.Answers.{answers_of}
use Rattle.two_faces.specs.Tables.{TEST_12}
use Rattle.two_faces.proofs.Runs.{is_face_12, is_other_face_12, twelve}
use Rattle.two_faces.proofs.case_12.Goals as goal

pub returns : goal.returns
unfolding TEST_12
returns c = c.two_faces.ensures ∙ ap (λ p. run (answers_of c.args.q) p no_notes) (twelve _ c.requires _ _ c.ambiguous.ensures.face c.ambiguous-2.ensures.face)

pub ambiguous-requires : goal.ambiguous-requires
unfolding TEST_12
ambiguous-requires c = is_face_12 _ c.requires

pub ambiguous-requires-2 : goal.ambiguous-requires-2
unfolding TEST_12
ambiguous-requires-2 c = is_other_face_12 _ c.requires
