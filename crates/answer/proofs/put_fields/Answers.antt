-- `answer::put_fields` puts `fields`. Assumes nothing.
use Rattle.std.proofs.Common.{rules, arith, sym, append-nil}
use Rattle.answer.proofs.Joined.{spaced_more, fields_put}
use Rattle.answer.proofs.put_fields.Goals as goal

pub loop-n-init : goal.loop-n-init
loop-n-init g c = record { text = sym (append-nil _); room = omega arith }

pub put_field-requires : goal.put_field-requires
put_field-requires g c = (search rules, omega arith)

pub loop-n-preserved : goal.loop-n-preserved
loop-n-preserved g c =
    let now = c.loop-n in
    let put = c.put_field.ensures in
    record { text = spaced_more _ _ _ _ _ c.loop-n-test.true now.invariant.text put.text; room = omega (arith, now.invariant.room, put.room) }

pub put_field-requires-2 : goal.put_field-requires-2
put_field-requires-2 g c = (search rules, omega arith)

pub returns-clause-text : goal.returns-clause-text
returns-clause-text g c = fields_put _ _ c.loop-n.n-index _ _ _ c.loop-n-test.false c.loop-n.invariant.text c.put_field-2.ensures.text

pub returns-clause-room : goal.returns-clause-room
returns-clause-room g c = omega (arith, c.loop-n.invariant.room, c.put_field-2.ensures.room)
