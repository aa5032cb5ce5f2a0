-- Document 01, 'Interior test', over any kind of number: the readings for given ambiguous faces and s. Which faces and which sign a case
-- takes is in its plan (`families`, `two_faces`). Definitions only.
use Rattle.std.specs.Prelude.{ℕ, Bool, true, false, ◌||◌, ℤ, pos}
use mathlib.Core.List.{List, map, foldr}
use Rattle.binary32.specs.Numbers.{Numbers, f32}
use Rattle.cube.specs.declared.Cube.{Cube}
use Rattle.cube.specs.Corners.{corner_of}
use Rattle.edge.specs.Edge.{Told, rising, beyond, crossed, blank, Quotients, valued, edge_by, quotients}
use Rattle.notes.specs.declared.Notes.{Notes}
use Rattle.notes.specs.Notes.{no_notes, look_of, added, total}
use Rattle.interior.specs.declared.Sight.{Sight}
use Rattle.interior.specs.Pick.{Picked, pick_by}

-- whether a value was 1, with what was counted
abbrev pub seen : Bool → Notes → Sight
seen b m = record { hit = b; notes = m }

-- true if any; the counts added
unfoldable pub joined : Sight → Sight → Sight
joined x y = seen (x.hit || y.hit) (added x.notes y.notes)

module _ (K : Numbers) (D : Quotients K) where
  open K use {N}
  open D use {Q, nought}

  -- document 02, Change 2: crossed with product zero, or blank
  abbrev pub is_unsettled : Told Q → Bool
  is_unsettled rising = false
  is_unsettled (beyond t) = false
  is_unsettled (crossed t p) = nought p
  is_unsettled blank = true

  -- what a reading says, with whether a pair matched where its edge was picked
  unfoldable pub seen_as : Bool → Told Q → Sight
  seen_as matched r = seen (valued K D r) (look_of (is_unsettled r) matched)

  -- what is read at the edge that is picked
  unfoldable pub look_at : (ℕ → N) → Picked → Sight
  look_at corner p = seen_as p.matched (edge_by K D corner (pos p.edge))

  -- true if any reading's value is 1; all readings are made
  unfoldable pub inside_by : (ℕ → N) → List ℕ → ℤ → Sight
  inside_by corner faces s = foldr joined (seen false no_notes) (map (λ n. look_at corner (pick_by K corner s n)) faces)

-- the interior test of a cube, by the ambiguous faces and s
unfoldable pub inside_of : Cube → List ℕ → ℤ → Sight
inside_of q faces s = inside_by f32 quotients (corner_of q) faces s

-- all that was counted
abbrev pub counted : Sight → ℕ
counted x = total x.notes
