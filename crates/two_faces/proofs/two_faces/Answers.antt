-- `two_faces::two_faces` follows `plan_by`.
use Rattle.two_faces.proofs.TwoFaces.{by_first, by_second, by_both, by_none}
use Rattle.two_faces.proofs.two_faces.Goals as goal

pub returns-then-first-second : goal.returns-then-first-second
returns-then-first-second g c = by_first _ _ _ _ _ _ _ _ _ c.face_answer-first.ensures.answer c.face_answer-second.ensures.answer _ c.if-first-second.true c.plain.ensures

pub returns-then-second-first : goal.returns-then-second-first
returns-then-second-first g c = by_second _ _ _ _ _ _ _ _ _ c.face_answer-first.ensures.answer c.face_answer-second.ensures.answer _ c.if-second-first.true c.plain-then-second-first.ensures

pub returns-then-first : goal.returns-then-first
returns-then-first g c = by_both _ _ _ _ _ _ _ _ _ c.face_answer-first.ensures.answer c.face_answer-second.ensures.answer _ c.if-first-second.false c.if-second-first.false _ c.side.ensures _ c.test_interior-found.ensures.seen c.if-first.true c.settle.ensures

pub returns : goal.returns
returns g c = by_none _ _ _ _ _ _ _ _ _ c.face_answer-first.ensures.answer c.face_answer-second.ensures.answer _ c.if-first-second.false c.if-second-first.false _ c.side.ensures _ c.test_interior-found.ensures.seen c.if-first.false c.settle-2.ensures
