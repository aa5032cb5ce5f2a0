-- `hex_digits::digit` reads the table, which is right. Assumes nothing.
use Rattle.std.proofs.Common.{sym, arith}
use Rattle.hex_digits.proofs.Digits.{in_table}
use Rattle.hex_digits.proofs.digit.Goals as goal

pub returns-then-d-lt16 : goal.returns-then-d-lt16
returns-then-d-lt16 c = (c.if-d-lt16.true, sym (in_table c.args.b c.ranges.b.fits).0)

pub returns-else-d-lt16 : goal.returns-else-d-lt16
returns-else-d-lt16 c = let e = in_table c.args.b c.ranges.b.fits in omega (arith, e.0, e.1, c.if-d-lt16.false)
