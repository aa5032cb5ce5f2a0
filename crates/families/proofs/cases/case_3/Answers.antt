-- `families::cases::case_3` follows `plan3`.
use mathlib.Core.Path.{◌∙◌}
use Rattle.families.specs.Tables.{TEST_3}
use Rattle.families.proofs.Runs.{face_3, three_yes, three_no}
use Rattle.families.proofs.cases.case_3.Goals as goal

pub returns-then-face_answer : goal.returns-then-face_answer
unfolding TEST_3
returns-then-face_answer c = c.plain.ensures ∙ three_yes _ _ _ (face_3 _ c.requires) _ c.face_answer.ensures.answer c.if-face_answer.true

pub returns : goal.returns
unfolding TEST_3
returns c = c.plain-2.ensures ∙ three_no _ _ _ (face_3 _ c.requires) _ c.face_answer.ensures.answer c.if-face_answer.false
