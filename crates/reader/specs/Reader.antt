-- Document 01, 'Places and their forms': the cubes of a list of corners, eight after eight. Definitions only.
use Rattle.std.specs.Prelude.{ℕ, ◌+◌, ◌*◌, ◌/◌, ◌%◌, cond, List, length, get_or, ltb, eqb, Float, Result, Ok, Err}
use Rattle.std.specs.Float.{nan}
use Rattle.cube.specs.declared.Cube.{Cube}
use Rattle.reader.specs.declared.Past.{Past}
use Rattle.reader.specs.declared.Past.TheVariants as past

-- the cube at place i, counted in cubes
unfoldable pub cube_at : List Float → ℕ → Cube
cube_at xs i = record {
  c0 = get_or xs (8 * i) nan;
  c1 = get_or xs (8 * i + 1) nan;
  c2 = get_or xs (8 * i + 2) nan;
  c3 = get_or xs (8 * i + 3) nan;
  c4 = get_or xs (8 * i + 4) nan;
  c5 = get_or xs (8 * i + 5) nan;
  c6 = get_or xs (8 * i + 6) nan;
  c7 = get_or xs (8 * i + 7) nan;
}

-- what stands at a place: a cube; past the last whole one a part of a cube, or the list's end
pub data Standing : Type 0 where
  cube : Cube → Standing
  part : Standing
  end : Standing

-- the code's answers by these
abbrev pub standing : Result Cube Past → Standing
standing (Ok q) = cube q
standing (Err past.Part) = part
standing (Err past.End) = end

-- past the last whole cube a list whose length is no multiple of 8 has a part of a cube at every place
unfoldable pub step_at : List Float → ℕ → Standing
step_at xs at = cond (ltb at (length xs / 8)) (cube (cube_at xs at)) (cond (eqb (length xs % 8) 0) end part)
