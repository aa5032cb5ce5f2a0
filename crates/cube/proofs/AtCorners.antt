-- A value read at a corner's place. Assumes nothing.
use mathlib.Core.Path.{◌≡◌}
use mathlib.Core.List.{List}
use Prim.Native.Nat.{ℕ, ◌<◌}
use borrow.Author.Tests.{lt-ltb}
use lib.Ieee.{Float, nan}
use Rattle.std.specs.Prelude.{slice_index_or}
use Rattle.cube.specs.Corners.{value_at}

pub at_corner : (values : List Float) (k : ℕ) → k < 8 → slice_index_or values k nan ≡ value_at values k
unfolding value_at
at_corner values k h = rw (lt-ltb k 8 h)
