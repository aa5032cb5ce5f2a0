-- What is kept is what the block leaves, at most 81 bytes.
use Rattle.std.proofs.Common.{refl, inr, arith}
use Rattle.mc33.proofs.Keeping.{kept, short}
use Rattle.mc33.proofs.Streams.answer.Goals as goal

pub invariant_of-result : goal.invariant_of-result
invariant_of-result g c =
    let done = c.answer_block-done in
    let s = short c.args.buf.now done.new.out.items c.clear.new.self.items c.args.number c.args.n done.result c.clear.ensures done.ensures.block
    c.in-Continue.part c.in-Continue.is c.in-Continue.ensures.bounds.0 (omega arith) in
    record { short = omega arith }

pub returns : goal.returns
returns g c =
    let done = c.answer_block-done in
    inr (
      omega arith,
      inr (kept c.args.buf.now done.new.out.items c.clear.new.self.items c.args.number c.args.n done.result c.clear.ensures done.ensures.block
          c.in-Continue.part c.in-Continue.is c.in-Continue.ensures.bounds.0 (omega arith) _ c.to_front.new.buf refl c.to_front.ensures.place c.to_front.ensures.text),
    )
