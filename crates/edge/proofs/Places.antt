-- By an edge's place, what the public routine says. Assumes nothing.
use mathlib.Core.Path.{◌≡◌, refl, sym, ap, ◌∙◌}
use mathlib.Core.Bool.{Bool, true, false, cond}
use mathlib.Core.List.{List}
use Prim.Native.Nat.{ℕ}
use lib.IntN.{ℤ, nat_abs}
use lib.Ieee.{Float}
use Rattle.std.specs.Prelude.{Option, Some, None, is_some}
use Rattle.cube.specs.declared.Cube.{Cube}
use Rattle.cube.specs.Corners.{corners, value_at, corner_of, all_finite}
use Rattle.edge.specs.Edge.{Told, edge_by, edge_of, is_edge, reading, refused, edge_reading_of}
use Rattle.edge.specs.declared.Moves.{Moves}
use Rattle.edge.specs.Columns.{place_of}
use Rattle.edge.specs.Moves.{moves_of, read_of}

some_by : (b : Bool) (k : ℕ) → is_some (cond b (Some k) None) ≡ b
some_by true k = refl
some_by false k = refl

module _ (q : Cube) (z : ℤ) (p : Option ℕ) (e : p ≡ place_of z) where
  -- a number is an edge's exactly where it has a place
  is_an_edge : (b : Bool) → is_some p ≡ b → is_edge z ≡ b
  is_an_edge b s = sym (some_by (is_edge z) (nat_abs z)) ∙ ap is_some (sym e) ∙ s

  pub by_no_edge : is_some p ≡ false → refused 5 ≡ edge_reading_of q z
  unfolding edge_reading_of
  by_no_edge s = rw (is_an_edge false s)

  pub by_not_finite : is_some p ≡ true → all_finite q ≡ false → refused 3 ≡ edge_reading_of q z
  unfolding edge_reading_of
  by_not_finite s g = rw (is_an_edge true s, g)

  pub by_reading : is_some p ≡ true → all_finite q ≡ true → (vs : List Float) → vs ≡ corners q → (m : Moves) → m ≡ moves_of (value_at vs) z → (r : Told Float) → r ≡ read_of m → reading r ≡ edge_reading_of q z
  unfolding edge_reading_of edge_of edge_by moves_of read_of corner_of
  by_reading s g vs ev m em r er = rw (is_an_edge true s, g, er, em, ev)
