-- `interior::interior_ambiguity` picks the edge that `pick_with` does.
use Rattle.interior.proofs.Picks.{edge_picked}
use Rattle.interior.proofs.interior_ambiguity.Goals as goal

pub returns : goal.returns
returns c =
    let (pick, edge) = edge_picked _ _ c.args.face.ambiguous _ c.set_of.ensures in
    record { pick = pick; edge = edge }
