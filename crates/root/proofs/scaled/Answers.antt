-- `root::scaled` writes the root of a smaller number. The loop's invariant: the number is the same, written with fewer fours. The measure is how many of them are left. Assumes nothing.
use mathlib.Core.Path.{sym, ◌∙◌, subst}
use Prim.Native.Nat.{ℕ, ◌^◌, ◌≤◌}
use native.Mathlib.Omega.{arith}
use Rattle.root.proofs.Scaling.{fours, four_left}
use Rattle.root.proofs.scaled.Goals as goal

pub overflow_sub-j : goal.overflow_sub-j
overflow_sub-j c = four_left c.loop-m.m _ (omega arith) (subst (λ (z : ℕ). 2 ^ 48 ≤ z) (sym c.loop-m.invariant.1.1) c.requires.1.1.1)

pub loop-m-preserved : goal.loop-m-preserved
loop-m-preserved c = (omega arith, (omega arith, fours _ _ (overflow_sub-j c) ∙ c.loop-m.invariant.1.1))
