-- A block as the code hands it back. Definitions only.
use Rattle.std.specs.Prelude.{ℕ, true, false, List, [], drop}
use Rattle.std.specs.declared.ops.ControlFlow.{ControlFlow}
use Rattle.std.specs.declared.ops.ControlFlow.TheVariants.{Continue, Break}
use Rattle.text.specs.declared.PartLine.{PartLine}
use Rattle.text.specs.Block.{Block, block}

-- a part line is left, or a line was refused and nothing is left
abbrev pub block_by : List ℕ → List ℕ → ControlFlow ℕ PartLine → Block
block_by written input (Continue part) = block written (drop part.left input) part.number false
block_by written input (Break line) = block written [] line true
