-- `root::isqrt` finds the whole root. Assumes nothing.
use native.Mathlib.Omega.{arith}
use Rattle.root.proofs.DigitsLeft.{none_left, digit_found, as_many}
use Rattle.root.proofs.isqrt.Goals as goal

pub loop-preserved : goal.loop-preserved
loop-preserved c = as_many (omega arith) (digit_found _ _ _ _ c.loop.invariant _ (omega arith) (grind arith))

pub returns : goal.returns
returns c = none_left _ _ _ _ c.loop.invariant (omega arith)
