-- `hex_digits::number` is `number_of` from none on. Assumes nothing.
use Rattle.std.proofs.Common.{arith, sym, ◌∙◌, ◌<◌}
use Rattle.hex_digits.proofs.Numbers.{room, still_below, one_more, no_more, none_left}
use Rattle.hex_digits.proofs.number.Goals as goal

pub overflow_mul-n : goal.overflow_mul-n
overflow_mul-n c =
    let l = room c.loop-b.b-index c.loop-b.n (omega arith) c.loop-b.invariant.small in
    record { fits = omega arith }

pub overflow_add-n : goal.overflow_add-n
overflow_add-n c =
    let l = room c.loop-b.b-index c.loop-b.n (omega arith) c.loop-b.invariant.small in
    let d : c.from.result < 16 = omega (arith, (c.in_ok-digit.ensures {u = tt}).0, c.from.ensures) in
    record { fits = omega arith }

pub returns-in_err-digit : goal.returns-in_err-digit
returns-in_err-digit c =
    c.from_residual.ensures ∙ sym (c.loop-b.invariant.same ∙ no_more _ _ _ c.loop-b-test.true (c.in_err-digit.ensures {u = tt}))

pub loop-b-preserved : goal.loop-b-preserved
loop-b-preserved c =
    let e = c.in_ok-digit.ensures {u = tt} in
    let d : c.from.result < 16 = omega (arith, e.0, c.from.ensures) in
    record {
      same = c.loop-b.invariant.same ∙ one_more _ _ _ c.loop-b-test.true _ d (e.1 ∙ sym c.from.ensures);
      small = still_below _ _ _ d c.loop-b.invariant.small;
    }

pub returns : goal.returns
returns c = sym (c.loop-b.invariant.same ∙ none_left c.loop-b.n c.loop-b.b-index c.args.digits.now (omega arith))
