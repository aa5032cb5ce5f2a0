-- `list::first_refused` is `first_from`. The invariant: the cubes from a place on come to what all of them come to. Assumes nothing.
use mathlib.Core.Path.{◌∙◌}
use Rattle.list.proofs.Firsts.{next_made, next_refused, none_left}
use Rattle.list.proofs.first_refused.Goals as goal

pub returns-in-Some : goal.returns-in-Some
returns-in-Some g c = next_refused _ _ _ c.loop-place-test.true _ c.in-Some.ensures ∙ c.loop-place.invariant

pub loop-place-preserved : goal.loop-place-preserved
loop-place-preserved g c = next_made _ _ _ c.loop-place-test.true c.in_default.ensures ∙ c.loop-place.invariant

pub returns : goal.returns
returns g c = none_left _ _ _ c.loop-place-test.false ∙ c.loop-place.invariant
