-- `cube::value_at` is `value_at`.
use borrow.Author.Tests.{lt-ltb, le-ltb}
use lib.Ieee.{of_bits}
use Rattle.cube.specs.Corners.{value_at}
use Rattle.cube.proofs.value_at.Goals as goal

pub returns-then-i-lt8 : goal.returns-then-i-lt8
unfolding value_at
returns-then-i-lt8 c = simp (lt-ltb _ 8 c.if-i-lt8.true)

pub returns-else-i-lt8 : goal.returns-else-i-lt8
unfolding value_at of_bits
returns-else-i-lt8 c = simp (le-ltb _ 8 c.if-i-lt8.false)
