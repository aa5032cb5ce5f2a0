-- `families::cases::case_7` follows `plan7`.
use mathlib.Core.Path.{◌∙◌}
use Rattle.families.specs.Tables.{TEST_7}
use Rattle.families.proofs.Runs.{seven_asked}
use Rattle.families.proofs.cases.case_7.Goals as goal

pub returns : goal.returns
unfolding TEST_7
returns c = c.part_7.ensures ∙ seven_asked _ _ c.requires _ c.ask_three-sub.ensures.1
