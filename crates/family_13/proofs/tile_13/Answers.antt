-- `family_13::tile_13` follows `tile13`.
use mathlib.Core.Path.{◌∙◌}
use Rattle.tilings.proofs.Settling.{counted_so}
use Rattle.family_13.proofs.Runs.{inside_yes, inside_no, not_asked}
use Rattle.family_13.proofs.tile_13.Goals as goal

pub returns-then-interior_test_case13 : goal.returns-then-interior_test_case13
returns-then-interior_test_case13 c = c.tile.ensures ∙ counted_so _ _ _ c.tests.ensures ∙ inside_yes _ _ _ _ c.if-code-eq-TILING_13_5_1.true _ c.interior_test_case13.ensures c.if-interior_test_case13.true

pub returns-then-code-eq-TILING_13_5_1 : goal.returns-then-code-eq-TILING_13_5_1
returns-then-code-eq-TILING_13_5_1 c = c.tile-then-code-eq-TILING_13_5_1.ensures ∙ counted_so _ _ _ c.tests-then-code-eq-TILING_13_5_1.ensures ∙ inside_no _ _ _ _ c.if-code-eq-TILING_13_5_1.true _ c.interior_test_case13.ensures c.if-interior_test_case13.false

pub returns : goal.returns
returns c = c.tile-2.ensures ∙ counted_so _ _ _ c.tests-2.ensures ∙ not_asked _ _ _ _ c.if-code-eq-TILING_13_5_1.false
