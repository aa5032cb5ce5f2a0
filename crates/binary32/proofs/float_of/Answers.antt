-- `binary32::float_of` is `of_bits` at every pattern.
use lib.Ieee.{div, of_bits}
use Rattle.binary32.proofs.NanBits.{above_inf, not_above_inf}
use Rattle.binary32.proofs.float_of.Goals as goal

pub returns-then-digits-gt2139095040 : goal.returns-then-digits-gt2139095040
unfolding div of_bits
returns-then-digits-gt2139095040 c = above_inf _ c.if-digits-gt2139095040.true

pub float_from_bits-result : goal.float_from_bits-result
float_from_bits-result c = not_above_inf _ c.if-digits-gt2139095040.false
