-- `list_signs::Corners::row_at` gives the bytes of the choice of `choice_at`. Assumes nothing.
use mathlib.Core.Path.{ap, ◌∙◌}
use Rattle.signs.specs.Front.{choice_for}
use Rattle.rows.specs.Rows.{bytes_of}
use Rattle.list_signs.specs.Lists.{choice_at}
use Rattle.list_signs.proofs.Numbers.{made_finite}
use Rattle.list_signs.proofs.CornersCubeList.row_at.Goals as goal

pub choose_finite-requires : goal.choose_finite-requires
choose_finite-requires c = made_finite _ _ _ c.cube_at.ensures c.requires.made

pub row_of-requires : goal.row_of-requires
row_of-requires c = c.choose_finite.ensures.few

pub returns : goal.returns
unfolding choice_at
returns c = c.row_of.ensures ∙ ap bytes_of (c.choose_finite.ensures.choice ∙ ap choice_for c.cube_at.ensures)
