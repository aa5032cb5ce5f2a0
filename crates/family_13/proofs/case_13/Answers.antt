-- `family_13::case_13` follows `plan13`.
use mathlib.Core.Path.{◌∙◌}
use Rattle.family_13.specs.Tables.{TEST_13}
use Rattle.family_13.proofs.Runs.{thirteen_asked}
use Rattle.family_13.proofs.case_13.Goals as goal

pub returns : goal.returns
unfolding TEST_13
returns c = c.part_13.ensures ∙ thirteen_asked _ _ c.requires _ _ c.ask_three-low.ensures.1 c.ask_three-high.ensures.1
