-- `list::put_rows` puts the rows of `rows_of`. The invariant: the rows of the first k cubes are put, and none from k on is refused. Assumes nothing.
use mathlib.Core.Path.{sym, ◌∙◌}
use native.Mathlib.Omega.{arith}
use Rattle.put.proofs.Placed.{placed_nothing}
use Rattle.list.specs.Lists.{rows_of}
use Rattle.list.proofs.Firsts.{from_first, made_one}
use Rattle.list.proofs.Rows.{rows_again}
use Rattle.list.proofs.put_rows.Goals as goal

pub loop-k-init : goal.loop-k-init
unfolding rows_of
loop-k-init g c = (from_first _ _ ∙ c.requires.made, sym (placed_nothing _ 0))

pub row_at-requires-clause-made : goal.row_at-requires-clause-made
row_at-requires-clause-made g c =
    let l = c.loop-k in
    (made_one (g.C.CubeList.refusal c.args.cubes) c.args.n l.k (omega arith) l.invariant.0).0

pub loop-k-preserved : goal.loop-k-preserved
loop-k-preserved g c =
    let l = c.loop-k in (
      (made_one (g.C.CubeList.refusal c.args.cubes) c.args.n l.k (omega arith) l.invariant.0).1,
      (rows_again _ _ _ _ _ _ (omega arith) (omega arith) l.invariant.1 c.row_at.ensures c.put_row.ensures).1,
    )
