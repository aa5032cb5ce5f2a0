-- `thirteen::is_within` is `within`.
use mathlib.Core.Path.{refl}
use lib.Ieee.{of_bits}
use Rattle.thirteen.proofs.is_within.Goals as goal

pub returns : goal.returns
unfolding of_bits
returns c = refl
