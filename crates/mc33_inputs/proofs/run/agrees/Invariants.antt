-- `mc33_inputs::run::agrees` is safe and ends: each block goes on in the input, and counts no more lines than an input has bytes. Assumes nothing.
use Rattle.std.proofs.Common.{◌+◌, ◌-◌, ◌*◌, ◌≤◌, length}
use Rattle.mc33_inputs.proofs.run.agrees.Given as goal

abbrev pub invariant-loop-at : goal.invariant-loop-at
invariant-loop-at l = (l.at ≤ length l.input) × ((l.part.left ≤ l.at) × ((1 ≤ l.size) × (l.part.number ≤ 1 + 131072 * l.at)))

abbrev pub decreases-loop-at : goal.decreases-loop-at
decreases-loop-at l = length l.input - l.at
