-- `families::cases::case_6` follows `plan6`.
use Rattle.families.specs.Tables.{TEST_6}
use Rattle.families.proofs.Runs.{face_6, is_face_6, six_yes, six_settled}
use Rattle.families.proofs.cases.case_6.Goals as goal

pub returns-then-face_answer : goal.returns-then-face_answer
unfolding TEST_6
returns-then-face_answer c = six_yes _ _ c.requires _ (face_6 _ c.requires) _ c.face_answer.ensures.answer _ c.if-face_answer.true c.plain.ensures

pub ambiguous-requires : goal.ambiguous-requires
unfolding TEST_6
ambiguous-requires c = is_face_6 _ c.requires

pub returns : goal.returns
unfolding TEST_6
returns c = six_settled _ _ c.requires _ (face_6 _ c.requires) _ c.face_answer.ensures.answer _ c.if-face_answer.false _ c.ambiguous.ensures.face _ c.side.ensures _ c.test_interior-found.ensures.seen c.settle.ensures
