-- `thirteen::both_within` is `both_within`.
use Rattle.thirteen.proofs.Ways.{by_places}
use Rattle.thirteen.proofs.both_within.Goals as goal

pub returns : goal.returns
returns c =
    by_places _ _ _ _ _ _ c.place_at-w1.ensures c.place_at-w2.ensures c.place_at-w3.ensures c.place_at-w4.ensures
    _ _ c.is_within.ensures c.is_within-2.ensures
