-- Of the readings that an interior test makes, one for each face, unsettled and unmatched are no more: the bounds that callers' sums want. Assumes nothing.
use mathlib.Core.Path.{refl}
use mathlib.Core.Bool.{Bool}
use mathlib.Core.List.{List, [], ◌∷◌}
use Prim.Native.Nat.{ℕ, ◌+◌, ◌≤◌}
use native.Mathlib.Omega.{arith}
use lib.Dec.{lit≤}
use lib.IntN.{ℤ, pos}
use lib.ListN.{length}
use Rattle.binary32.specs.Numbers.{Numbers, f32}
use Rattle.cube.specs.declared.Cube.{Cube}
use Rattle.cube.specs.Corners.{corner_of}
use Rattle.edge.specs.Edge.{Told, Quotients, edge_by, quotients}
use Rattle.notes.proofs.Bounds.{AtMost, looks_of, at_most_one, one_more}
use Rattle.interior.specs.declared.Sight.{Sight}
use Rattle.interior.specs.Pick.{Picked, pick_by}
use Rattle.interior.specs.Interior.{is_unsettled, joined, seen_as, look_at, inside_by, inside_of, counted}

pub counted_joined : (x y : Sight) → counted (joined x y) ≤ counted x + counted y
unfolding joined
counted_joined x y = omega arith

module _ (K : Numbers) (D : Quotients K) where
  look_bound : (matched : Bool) (t : Told D.Q) → AtMost (seen_as K D matched t).notes (looks_of 1)
  unfolding seen_as
  look_bound matched t = at_most_one (is_unsettled K D t) matched

  pub counted_look : (matched : Bool) (t : Told D.Q) → counted (seen_as K D matched t) ≤ 3
  counted_look matched t = let (h, (i, e)) = look_bound matched t in omega (arith, e)

  one_bound : (corner : ℕ → K.N) (p : Picked) → AtMost (look_at K D corner p).notes (looks_of 1)
  unfolding look_at
  one_bound corner p = look_bound p.matched (edge_by K D corner (pos p.edge))

  all_bound : (corner : ℕ → K.N) (faces : List ℕ) (s : ℤ) → AtMost (inside_by K D corner faces s).notes (looks_of (length faces))
  unfolding inside_by joined
  all_bound corner [] s = (lit≤ tt, (lit≤ tt, refl))
  all_bound corner (n ∷ faces) s =
      one_more (look_at K D corner (pick_by K corner s n)).notes (inside_by K D corner faces s).notes (length faces)
      (one_bound corner (pick_by K corner s n))
      (all_bound corner faces s)

pub inside_bound : (q : Cube) (faces : List ℕ) (s : ℤ) → AtMost (inside_of q faces s).notes (looks_of (length faces))
unfolding inside_of
inside_bound q faces s = all_bound f32 quotients (corner_of q) faces s
