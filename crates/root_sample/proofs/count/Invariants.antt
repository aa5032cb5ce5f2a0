-- `root_sample::count`: no more lines differ than are read.
use Rattle.std.proofs.Common.{◌≤◌}
use Rattle.root_sample.proofs.count.Given as goal

abbrev pub invariant-loop-lines : goal.invariant-loop-lines
invariant-loop-lines l = l.differ ≤ l.lines
