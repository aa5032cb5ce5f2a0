-- A list's cubes, their refusals and choices, as the code reads them. Assumes nothing.
use mathlib.Core.Path.{◌≡◌, ap, ◌∙◌}
use mathlib.Core.Bool.{Bool, cond}
use mathlib.Core.List.{List}
use Prim.Native.Nat.{ℕ, ◌+◌, ◌*◌, ◌/◌, ◌%◌, ◌<◌}
use lib.Dec.{eqb}
use lib.IntN.{ℤ, pos}
use lib.ListN.{length, get_or}
use lib.Ieee.{Float}
use borrow.Author.Tests.{lt-ltb}
use mir.Syntax.{w8}
use mir.Val.{SFits, to_z, of_z}
use mir.ValLaws.{to_z-of_z}
use Rattle.std.specs.Prelude.{Result, Ok, Err}
use Rattle.cube.specs.declared.Cube.{Cube}
use Rattle.reader.specs.declared.Past.{Past}
use Rattle.reader.specs.declared.Past.TheVariants.{Part, End}
use Rattle.reader.specs.Reader.{cube, part, end, standing, cube_at, step_at}
use Rattle.choice.specs.Choice.{refusal_of, choice_of}
use Rattle.rows.specs.Rows.{refusal_at, choice_at}

module _ (xs : List Float) (i : ℕ) (h : i < length xs / 8) where
  stands : (r : Result Cube Past) → standing r ≡ step_at xs i → standing r ≡ cube (cube_at xs i)
  unfolding step_at
  stands r e =
      e ∙ ap (λ (b : Bool). cond b (cube (cube_at xs i)) (cond (eqb (length xs % 8) 0) end part)) (lt-ltb i (length xs / 8) h)

  -- a cube stands at a place that the list has
  pub read_cube : (r : Result Cube Past) → standing r ≡ step_at xs i → r ≡ Ok (cube_at xs i)
  read_cube (Ok q) e = let s = stands (Ok q) e in cc
  read_cube (Err Part) e = let s = stands (Err Part) e in cc
  read_cube (Err End) e = let s = stands (Err End) e in cc

-- the case, the configuration and the cube as they are read
module _ (xs : List Float) (ns : List ℤ) (i : ℕ) (q : Cube) (f : SFits w8 (get_or ns (2 * i) (pos 0))) (g : SFits w8 (get_or ns (2 * i + 1) (pos 0))) (e : q ≡ cube_at xs i) where
  at_place : {A : Type 0} (of : ℤ → ℤ → Cube → A)
      → of (to_z w8 (of_z w8 (get_or ns (2 * i) (pos 0)))) (to_z w8 (of_z w8 (get_or ns (2 * i + 1) (pos 0)))) q ≡ of (get_or ns (2 * i) (pos 0)) (get_or ns (2 * i + 1) (pos 0)) (cube_at xs i)
  at_place of = rw (to_z-of_z w8 (get_or ns (2 * i) (pos 0)) f, to_z-of_z w8 (get_or ns (2 * i + 1) (pos 0)) g, e)

  pub refusal_read : refusal_of (to_z w8 (of_z w8 (get_or ns (2 * i) (pos 0)))) (to_z w8 (of_z w8 (get_or ns (2 * i + 1) (pos 0)))) q ≡ refusal_at xs ns i
  unfolding refusal_at
  refusal_read = at_place refusal_of

  pub choice_read : choice_of (to_z w8 (of_z w8 (get_or ns (2 * i) (pos 0)))) (to_z w8 (of_z w8 (get_or ns (2 * i + 1) (pos 0)))) q ≡ choice_at xs ns i
  unfolding choice_at
  choice_read = at_place choice_of
