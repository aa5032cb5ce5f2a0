-- One more call failed for now only.
use Rattle.std.proofs.Common.{rules, of_calls}
use Rattle.waiting.specs.Waits.{none, again}
use Rattle.waiting.proofs.retry.Goals as goal

pub loop-tries-init : goal.loop-tries-init
loop-tries-init g c = record { callable = search (rules, of_calls); passed = none }

pub loop-tries-preserved : goal.loop-tries-preserved
loop-tries-preserved g c = record {
  callable = search (rules, of_calls);
  passed = again c.in-Err.e c.loop-tries.invariant.passed c.in-Err.ensures cc;
}
