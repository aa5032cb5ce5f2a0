-- `rows::cube_at` gives the cube of `cube_at`: the place is one of the list's. Assumes nothing.
use Rattle.std.proofs.Common.{sym, ◌∙◌, rules}
use Rattle.rows.proofs.Places.{read_cube}
use Rattle.rows.proofs.cube_at.Goals as goal

pub unwrap-requires : goal.unwrap-requires
unwrap-requires c = rw (read_cube _ _ c.requires _ c.read_at.ensures.stands) (search rules)

pub returns : goal.returns
returns c = let e = sym c.unwrap.ensures ∙ read_cube _ _ c.requires _ c.read_at.ensures.stands in cc
