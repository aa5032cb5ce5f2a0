-- The interior test for any number of faces, a face at a time, from what is seen at each. Assumes nothing.
use mathlib.Core.Path.{◌≡◌, sym, ap, ◌∙◌}
use mathlib.Core.Bool.{Bool, false}
use mathlib.Core.List.{List, ◌∷◌, map}
use Prim.Native.Nat.{ℕ, ◌+◌, ◌*◌, ◌≤◌, ◌<◌}
use native.Mathlib.Omega.{arith}
use lib.Dec.{lit≤}
use lib.IntN.{ℤ, pos}
use lib.ListN.{length, drop, get_or}
use lib.Ieee.{Float}
use Rattle.std.proofs.Common.{add-one}
use Rattle.std.proofs.Math.Seq.{drop-cons}
use Rattle.std.proofs.Math.ListN.{drop_of_length-le}
use Rattle.binary32.specs.Numbers.{f32}
use Rattle.cube.specs.declared.Cube.{Cube}
use Rattle.cube.specs.Corners.{corners, value_at, corner_of}
use Rattle.edge.specs.declared.Moves.{Moves}
use Rattle.edge.specs.Edge.{Told, quotients}
use Rattle.edge.specs.Moves.{moves_of, read_of}
use Rattle.notes.specs.declared.Notes.{Notes}
use Rattle.notes.specs.Notes.{no_notes}
use Rattle.interior.specs.declared.faces.AmbiguousFace.{AmbiguousFace}
use Rattle.interior.specs.declared.Diagonals.{Diagonals}
use Rattle.interior.specs.declared.Sight.{Sight}
use Rattle.interior.specs.Pick.{pick_with, pick_by}
use Rattle.interior.specs.Diagonals.{diagonals_of, held_by}
use Rattle.interior.specs.Interior.{seen, seen_as, look_at, joined, inside_by, inside_of, counted}
use Rattle.interior.proofs.Bounds.{counted_look, counted_joined}
use Rattle.interior.proofs.Picks.{same_picks}
use Rattle.interior.proofs.Sights.{looked_at, joined_none, none_joined, joined_assoc}

-- ---- few are counted: there is room to join one more
pub few_seen : (b : Bool) (t : Told Float) (x : Sight) → x ≡ seen_as f32 quotients b t → counted x ≤ 3
few_seen b t x e = rw e (counted_look f32 quotients b t)

pub few_more : (n : ℕ) (x y z : Sight) → counted x ≤ 3 * n → counted y ≤ 3 → z ≡ joined x y → counted z ≤ 3 * (n + 1)
few_more n x y z h i e = rw e (omega (arith, counted_joined x y))

module _ (vs : List Float) (d : Diagonals) where
  -- what the code looks at for a face
  abbrev at : ℕ → Sight
  at n = look_at f32 quotients (value_at vs) (pick_with (held_by d) n)

  pub seen_at : (k : ℕ) (e : ℤ) (b : Bool) (m : Moves) (x : Sight)
      → e ≡ pos (pick_with (held_by d) k).edge → b ≡ (pick_with (held_by d) k).matched → m ≡ moves_of (value_at vs) e → x ≡ seen_as f32 quotients b (read_of m) → x ≡ at k
  seen_at k e b m x ee eb em ex = looked_at (value_at vs) (pick_with (held_by d) k) b m x eb (em ∙ ap (moves_of (value_at vs)) ee) ex

  module _ (q : Cube) (s : ℤ) (ev : vs ≡ corners q) (ed : d ≡ diagonals_of q s) where
    same_look : (n : ℕ) → at n ≡ look_at f32 quotients (corner_of q) (pick_by f32 (corner_of q) s n)
    unfolding corner_of
    same_look n = rw (ev, ed, same_picks f32 (corner_of q) s n)

    more_inside : (n : ℕ) (ns : List ℕ) → inside_of q (n ∷ ns) s ≡ joined (at n) (inside_of q ns s)
    unfolding inside_of inside_by
    more_inside n ns = λ i. joined (sym (same_look n) i) (inside_of q ns s)

    -- from the faces at i and after it to those after it
    pub one_more_face : (faces : List AmbiguousFace) (i : ℕ) (d : AmbiguousFace) (x y z whole : Sight) → i < length faces
        → joined x (inside_of q (map (λ k. k.n) (drop i faces)) s) ≡ whole → y ≡ at (get_or faces i d).n → z ≡ joined x y
        → joined z (inside_of q (map (λ k. k.n) (drop (i + 1) faces)) s) ≡ whole
    one_more_face faces i d x y z whole h e ey ez =
        let face = get_or faces i d in
        let rest = map (λ (k : AmbiguousFace). k.n) (drop (i + 1) faces) in
        let next : drop i faces ≡ face ∷ drop (i + 1) faces = rw (add-one, drop-cons faces i d h) in
        rw (ez, ey, joined_assoc x (at face.n) (inside_of q rest s), ← more_inside face.n rest) (rw next at e)

-- before the first face nothing is seen, and after the last one all is
pub none_counted : (m : Notes) → m ≡ no_notes → counted (seen false m) ≤ 3 * 0
none_counted m e = rw e (lit≤ tt)

module _ (q : Cube) (s : ℤ) where
  pub begun : (faces : List ℕ) (m : Notes) → m ≡ no_notes → joined (seen false m) (inside_of q faces s) ≡ inside_of q faces s
  begun faces m em = rw (em, none_joined (inside_of q faces s))

  pub all_faces : (faces : List AmbiguousFace) (i : ℕ) (x whole : Sight) → length faces ≤ i
      → joined x (inside_of q (map (λ k. k.n) (drop i faces)) s) ≡ whole → x ≡ whole
  unfolding inside_of inside_by
  all_faces faces i x whole h e = sym (joined_none x) ∙ (rw (drop_of_length-le faces h) at e)
