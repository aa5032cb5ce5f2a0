-- Some bytes came: the block is the part line and these.
use Rattle.std.proofs.Common.{arith}
use Rattle.mc33.proofs.Coming.{some_came}
use Rattle.mc33.proofs.Streams.after_read.Goals as goal

pub returns-in-Ok : goal.returns-in-Ok
returns-in-Ok g c =
    let a = c.args in
    some_came a.got a.part c.answer.result a.buf.now c.answer.new.buf c.answer.new.out.items c.in-Ok.more c.in-Ok.is (grind arith) (grind arith) c.answer.ensures
