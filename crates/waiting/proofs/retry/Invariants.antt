-- As many calls as turns failed for now only. The call may be made again.
use Rattle.waiting.specs.Waits.{Passed}
use Rattle.waiting.proofs.retry.Given as goal

abbrev pub invariant-loop-tries : goal.invariant-loop-tries
invariant-loop-tries g l = record {
  callable : goal.F-IsAlwaysCallable g l.call;
  passed : Passed (λ f r h. goal.F-step g f r h) l._tries l.initial.call l.call;
}
