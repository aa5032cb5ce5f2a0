-- `rows::Cubes::row_at` gives the bytes of the choice of `choice_at`. Assumes nothing.
use mathlib.Core.Path.{ap, ◌∙◌}
use Rattle.rows.specs.Rows.{bytes_of}
use borrow.Author.Rules.{rules}
use Rattle.rows.proofs.Places.{refusal_read, choice_read}
use Rattle.rows.proofs.CubesCubeList.row_at.Goals as goal

pub choose_tested-requires : goal.choose_tested-requires
choose_tested-requires c = refusal_read _ _ _ _ (search rules) (search rules) c.cube_at-cube.ensures ∙ c.requires.made

pub row_of-requires : goal.row_of-requires
row_of-requires c = c.choose_tested.ensures.few

pub returns : goal.returns
returns c = c.row_of.ensures ∙ ap bytes_of (c.choose_tested.ensures.choice ∙ choice_read _ _ _ _ (search rules) (search rules) c.cube_at-cube.ensures)
