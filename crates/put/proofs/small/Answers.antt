-- `put::small` puts three digits at most. Assumes nothing.
use Rattle.std.proofs.Common.{ℕ, ap, length, length-append, arith}
use Rattle.put.proofs.Digits.{decimal_small}
use Rattle.put.proofs.small.Goals as goal

pub returns-clause-room : goal.returns-clause-room
returns-clause-room g c = omega (arith, ap length c.decimal.ensures, length-append {A = ℕ}, decimal_small c.args.n (omega arith))
