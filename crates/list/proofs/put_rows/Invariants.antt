-- The rows of the first k cubes are put, and none from k on is refused.
use mathlib.Core.Path.{◌≡◌}
use Prim.Native.Nat.{◌-◌}
use Rattle.put.specs.Placed.{placed}
use Rattle.rows.specs.Rows.{done}
use Rattle.list.specs.Lists.{first_from, rows_of}
use Rattle.list.proofs.put_rows.Given as goal

abbrev pub invariant-loop-k : goal.invariant-loop-k
invariant-loop-k g l =
    (first_from (g.C.CubeList.refusal l.cubes) (l.n - l.k) l.k ≡ done) × (l.answers ≡ placed l.initial.answers 0 (rows_of (g.C.CubeList.choice l.cubes) l.k))
