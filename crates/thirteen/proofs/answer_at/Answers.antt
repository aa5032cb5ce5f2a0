-- `thirteen::answer_at` is `answer_at`.
use Rattle.thirteen.proofs.Ways.{by_inside, by_outside}
use Rattle.thirteen.proofs.answer_at.Goals as goal

pub returns-then-is_within : goal.returns-then-is_within
returns-then-is_within c =
    by_inside _ _ _ _ _ c.is_within.ensures c.is_within-2.ensures c.if-is_within.true _ _ c.both_within.ensures c.both_within-then-is_within.ensures

pub returns : goal.returns
returns c = by_outside _ _ _ _ _ c.is_within.ensures c.is_within-2.ensures c.if-is_within.false
