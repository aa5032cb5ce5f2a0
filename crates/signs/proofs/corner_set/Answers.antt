-- `signs::corner_set` is `set_of`, and its bits say which corners belong.
use lib.Ieee.{of_bits}
use Rattle.signs.proofs.Sets.{read_set, bits_belong}
use Rattle.signs.proofs.corner_set.Goals as goal

pub returns-clause-set : goal.returns-clause-set
unfolding of_bits
returns-clause-set c = read_set c.args.q c.values.result c.values.ensures

pub returns-clause-bits : goal.returns-clause-bits
returns-clause-bits c = bits_belong c.args.q _ (returns-clause-set c)
