-- `edge::row` has the moves of the edge.
use Rattle.edge.specs.Edge.{moves}
use Rattle.edge.proofs.Columns.{found, none, row_bound}
use Rattle.edge.proofs.row.Goals as goal

pub returns-in-Some : goal.returns-in-Some
unfolding moves
returns-in-Some c = let e = found _ _ c.place.ensures _ c.in-Some.is in record { row = e; corners = row_bound _ _ e }

pub returns-in-None : goal.returns-in-None
returns-in-None c = let e = none _ _ c.place.ensures c.in-None.is in record { row = e; corners = row_bound _ _ e }
