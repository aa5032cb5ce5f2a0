-- The cubes from a place on come to what all of them come to.
use mathlib.Core.Path.{◌≡◌}
use Prim.Native.Nat.{◌-◌}
use Rattle.list.specs.Lists.{first_from}
use Rattle.list.proofs.first_refused.Given as goal

abbrev pub invariant-loop-place : goal.invariant-loop-place
invariant-loop-place g l = first_from (g.C.CubeList.refusal l.cubes) (l.n - l.place) l.place ≡ first_from (g.C.CubeList.refusal l.cubes) l.n 0
