-- `hex_digits::pair` is `pair_of`. Assumes nothing.
use Rattle.std.proofs.Common.{Some, None}
use Rattle.hex_digits.proofs.Numbers.{pair_said}
use Rattle.hex_digits.proofs.pair.Goals as goal

pub returns-in_err-number : goal.returns-in_err-number
returns-in_err-number c = rw c.from_residual.ensures (pair_said c.args.line.now c.args.at None c.requires (c.in_err-number.ensures {u = tt}))

pub overflow_cast-result : goal.overflow_cast-result
overflow_cast-result c =
    record { fits = (pair_said c.args.line.now c.args.at (Some c.in_ok-number.field-0) c.requires (c.in_ok-number.ensures {u = tt})).0 }

pub returns : goal.returns
returns c = (pair_said c.args.line.now c.args.at (Some c.in_ok-number.field-0) c.requires (c.in_ok-number.ensures {u = tt})).1
