-- `two_faces::case_10` follows `plan10`.
use mathlib.Core.Path.{◌∙◌, ap}
use Rattle.notes.specs.Notes.{no_notes}
use Rattle.tilings.specs.Plan.{run}
use Rattle.tilings.specs.Answers.{answers_of}
use Rattle.two_faces.specs.Tables.{TEST_10}
use Rattle.two_faces.proofs.Runs.{is_face_10, ten}
use Rattle.two_faces.proofs.case_10.Goals as goal

pub ambiguous-requires : goal.ambiguous-requires
unfolding TEST_10
ambiguous-requires c = is_face_10 _ c.requires

pub returns : goal.returns
unfolding TEST_10
returns c = c.two_faces.ensures ∙ ap (λ p. run (answers_of c.args.q) p no_notes) (ten _ c.requires _ c.ambiguous.ensures.face)
