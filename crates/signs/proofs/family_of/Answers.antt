-- `signs::family_of` reads the table, which obeys the rule.
use Rattle.signs.specs.Table.{families}
use Rattle.signs.proofs.Ruled.{read_table, read_rule}
use Rattle.signs.proofs.family_of.Goals as goal

pub returns-clause-table : goal.returns-clause-table
unfolding families
returns-clause-table c = read_table c.args.set c.ranges.set.fits

pub returns-clause-rule : goal.returns-clause-rule
unfolding families
returns-clause-rule c = read_rule c.args.set c.ranges.set.fits
