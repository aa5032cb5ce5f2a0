-- `binary32::in_range` is `in_range`.
use mathlib.Core.Path.{refl}
use lib.Ieee.{of_bits}
use Rattle.binary32.specs.Range.{in_range}
use Rattle.binary32.proofs.in_range.Goals as goal

pub returns : goal.returns
unfolding in_range of_bits
returns c = refl
