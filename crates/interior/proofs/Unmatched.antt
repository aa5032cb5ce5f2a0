-- The four pairs are the same for each face, so of the picks of an interior test none is without a match, or all are. Assumes nothing.
use mathlib.Core.Path.{◌≡◌, refl, ◌∙◌}
use mathlib.Core.Bool.{Bool, true, false, cond}
use mathlib.Core.List.{List, [], ◌∷◌}
use Prim.Native.Nat.{ℕ, suc, ◌+◌}
use native.Mathlib.Omega.{arith}
use lib.Dec.{T, leb, leb→le}
use lib.IntN.{ℤ}
use lib.ListN.{length}
use lib.Ieee.Fits.{and_l, and_r}
use Rattle.binary32.specs.Numbers.{Numbers, f32}
use Rattle.cube.specs.declared.Cube.{Cube}
use Rattle.cube.specs.Corners.{corner_of}
use Rattle.edge.specs.Edge.{Quotients, quotients}
use Rattle.interior.specs.Pick.{IsAmbiguousFace, is_ambiguous_face, are_ambiguous_faces, any_pair}
use Rattle.interior.specs.Interior.{joined, seen_as, look_at, inside_by, inside_of}
use Rattle.interior.proofs.Picks.{matched_any}

pub one_of_six : (n : ℕ) → T (is_ambiguous_face n) → IsAmbiguousFace n
one_of_six n t = (leb→le 1 n (and_l (leb 1 n) (leb n 6) t), leb→le n 6 (and_r (leb 1 n) (leb n 6) t))

-- with none or all of the others
one_more : (b : Bool) (n : ℕ) → cond b 0 1 + cond b 0 n ≡ cond b 0 (suc n)
one_more true n = refl
one_more false n = omega arith

none : (b : Bool) → ◌≡◌ {A = ℕ} 0 (cond b 0 0)
none true = refl
none false = refl

module _ (K : Numbers) (D : Quotients K) (corner : ℕ → K.N) (s : ℤ) where
  abbrev any : Bool
  any = any_pair K corner s

  unmatched_by : (faces : List ℕ) → T (are_ambiguous_faces faces) → (inside_by K D corner faces s).notes.unmatched ≡ cond any 0 (length faces)
  unfolding inside_by joined look_at seen_as
  unmatched_by [] t = none any
  unmatched_by (n ∷ faces) t =
      (λ i. cond (matched_any K corner s n (one_of_six n (and_l (is_ambiguous_face n) (are_ambiguous_faces faces) t)) i) 0 1 + unmatched_by faces (and_r (is_ambiguous_face n) (are_ambiguous_faces faces) t) i)
      ∙ one_more any (length faces)

pub unmatched_all : (q : Cube) (faces : List ℕ) (s : ℤ) → T (are_ambiguous_faces faces)
    → (inside_of q faces s).notes.unmatched ≡ cond (any_pair f32 (corner_of q) s) 0 (length faces)
unfolding inside_of
unmatched_all q faces s t = unmatched_by f32 quotients (corner_of q) s faces t
