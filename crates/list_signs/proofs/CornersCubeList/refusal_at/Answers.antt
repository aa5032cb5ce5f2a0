-- `list_signs::Corners::refusal_at` is `refusal_at`. Assumes nothing.
use Rattle.list_signs.proofs.Numbers.{told}
use Rattle.list_signs.proofs.CornersCubeList.refusal_at.Goals as goal

pub returns-then-all_finite : goal.returns-then-all_finite
returns-then-all_finite c = told _ _ _ c.cube_at.ensures _ _ c.all_finite.ensures c.if-all_finite.true

pub returns : goal.returns
returns c = told _ _ _ c.cube_at.ensures _ _ c.all_finite.ensures c.if-all_finite.false
