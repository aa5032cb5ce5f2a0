-- `families::cases::part_7` follows `part7`.
use mathlib.Core.Path.{◌∙◌}
use Rattle.families.specs.Plans.{part7}
use Rattle.tilings.proofs.Settling.{counted_so}
use Rattle.families.proofs.Runs.{seven_settled, seven_tabled}
use Rattle.families.proofs.cases.part_7.Goals as goal

pub returns-then-sub-eq7 : goal.returns-then-sub-eq7
returns-then-sub-eq7 c = c.settle.ensures ∙ seven_settled _ _ _ c.requires.0 c.if-sub-eq7.true _ c.side.ensures _ c.test_interior_three.ensures.seen

pub returns : goal.returns
unfolding part7
returns c = c.tile.ensures ∙ counted_so _ _ _ c.tests.ensures ∙ seven_tabled _ _ _ c.requires.1 c.if-sub-eq7.false
