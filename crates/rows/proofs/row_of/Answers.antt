-- `rows::row_of` gives the bytes of `bytes_of`. Assumes nothing.
use mathlib.Core.Path.{refl}
use native.Mathlib.Omega.{arith}
use Rattle.cube.proofs.Bounds.{bit_bound}
use Rattle.rows.specs.Rows.{bytes_of}
use Rattle.rows.proofs.Rows.{row_as, row_tiled}
use Rattle.rows.proofs.row_of.Goals as goal

pub overflow_add-centre : goal.overflow_add-centre
overflow_add-centre c =
    let few = c.requires.0 in
    let bit = (bit_bound c.in-Tiled.centre).0 in
    omega arith

pub returns-in-Empty : goal.returns-in-Empty
unfolding bytes_of
returns-in-Empty c = row_as c.args.r.notes _ _ c.filled.ensures _ _ c.in-Empty.is refl

pub returns-in-Untiled : goal.returns-in-Untiled
unfolding bytes_of
returns-in-Untiled c = row_as c.args.r.notes _ _ c.filled-in-Untiled.ensures _ _ c.in-Untiled.is refl

pub returns-in-Tiled : goal.returns-in-Tiled
returns-in-Tiled c = row_tiled _ _ _ _ _ _ _ c.in-Tiled.is c.filled-in-Tiled.ensures
