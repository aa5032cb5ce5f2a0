-- `family_13::part_13` follows `part13`.
use mathlib.Core.Path.{◌∙◌}
use Rattle.tilings.proofs.Settling.{counted_so}
use Rattle.family_13.specs.Tables.{SUB_CONFIG_13}
use Rattle.family_13.specs.Plans.{tile13, parts13, last_from, part13}
use Rattle.family_13.proofs.Runs.{untiled_lem, tiled_lem}
use Rattle.family_13.proofs.part_13.Goals as goal

pub returns-in-Some : goal.returns-in-Some
unfolding part13 parts13 last_from tile13 SUB_CONFIG_13
returns-in-Some c = c.tile_13.ensures ∙ tiled_lem _ _ _ c.requires.1 _ _ c.in-Some.is

pub returns-in-None : goal.returns-in-None
unfolding part13 parts13 last_from tile13 SUB_CONFIG_13
returns-in-None c = c.untiled.ensures ∙ counted_so _ _ _ c.tests.ensures ∙ untiled_lem _ _ _ c.requires.1 c.in-None.is
