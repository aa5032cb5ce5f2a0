-- A number has at most 20 digits, so the line fits.
use Rattle.std.proofs.Common.{ap, length, length-append, arith, rules}
use Rattle.put.proofs.Digits.{decimal_long}
use Rattle.mc33.proofs.Streams.say_refused.Goals as goal

pub decimal-requires : goal.decimal-requires
decimal-requires g c = (search rules, grind (arith, decimal_long c.args.line c.ranges.line.fits, ap length c.bytes.ensures, ap length c.new-text.ensures, length-append))

pub push-requires : goal.push-requires
push-requires g c = (search rules, grind (arith, decimal_long c.args.line c.ranges.line.fits, ap length c.bytes.ensures, ap length c.decimal.ensures, ap length c.new-text.ensures, length-append))
