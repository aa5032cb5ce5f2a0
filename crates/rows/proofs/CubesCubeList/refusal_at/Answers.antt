-- `rows::Cubes::refusal_at` is `refusal_at`. Assumes nothing.
use mathlib.Core.Path.{◌∙◌}
use borrow.Author.Rules.{rules}
use Rattle.rows.proofs.Places.{refusal_read}
use Rattle.rows.proofs.CubesCubeList.refusal_at.Goals as goal

pub returns : goal.returns
returns c = c.refusal.ensures ∙ refusal_read _ _ _ _ (search rules) (search rules) c.cube_at.ensures
