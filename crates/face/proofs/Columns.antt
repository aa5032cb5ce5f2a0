-- The code's table has document 01's rows, and row 0 for numbers that are no face; by it, the values at a face's corners. Assumes nothing.
use mathlib.Core.Path.{◌≡◌, refl}
use mathlib.Core.Logic.{inl, inr}
use mathlib.Core.Bool.{cond, ◌&&◌, and-false}
use mathlib.Core.List.{List, [], ◌∷◌, map, tail}
use Prim.Native.Nat.{ℕ, ◌<◌}
use borrow.Author.Tests.{lt-leb}
use lib.Dec.{leb, ltb, lit<, ltb→lt}
use lib.IntN.{ℤ, nat_abs}
use lib.ListN.{get_or, get_or-eq_default}
use lib.Ieee.{Float, nan}
use Rattle.std.specs.Prelude.{Option, Some, None, slice_index_or}
use Rattle.std.specs.List.{All}
use Rattle.std.specs.Option.{unwrap_or}
use Rattle.std.proofs.lemmas.Bool.{cases_lt}
use Rattle.std.proofs.lemmas.List.Elements.{All-from_recursion}
use Rattle.cube.specs.declared.Cube.{Cube}
use Rattle.cube.specs.Corners.{corners, corner_of}
use Rattle.cube.proofs.Table.{all_under, under, agree}
use Rattle.cube.proofs.AtCorners.{at_corner}
use Rattle.face.specs.declared.Square.{Square}
use Rattle.face.specs.Face.{face_corners, face_corner}
use Rattle.face.specs.Columns.{place_of, row_of, square_of}

-- the code's table: document 01's with zeros in row 0
abbrev pub rows : List (List ℕ)
rows = (0 ∷ 0 ∷ 0 ∷ 0 ∷ []) ∷ tail face_corners

by_size : ℕ → List ℕ
by_size m = slice_index_or rows (unwrap_or (cond (leb 1 m && leb m 6) (Some m) None) 0) []

row : ℕ → List ℕ
row m = map (λ k. get_or (get_or face_corners m []) k 0) (0 ∷ 1 ∷ 2 ∷ 3 ∷ [])

same : (m : ℕ) → by_size m ≡ row m
unfolding by_size row face_corners
same m = elim (cases_lt m 7) [
  | inl h ↦ agree by_size row 7 refl m h
  | inr h ↦ rw (lt-leb m 6 h, and-false (leb 1 m), get_or-eq_default face_corners [] h)
]

pub rowed : (n : ℤ) (p : Option ℕ) (k : ℕ) → p ≡ place_of n → k ≡ unwrap_or p 0 → slice_index_or rows k [] ≡ row_of n
unfolding by_size row face_corner
rowed n p k ep e = rw (e, ep) (same (nat_abs n))

-- each of a face's corners is one of the eight
one_of_eight : (m k : ℕ) → k < 4 → get_or (get_or face_corners m []) k 0 < 8
unfolding face_corners
one_of_eight m k h = elim (cases_lt m 7) [
  | inl l ↦ ltb→lt _ 8 (under 4 (λ k. ltb (get_or (get_or face_corners m []) k 0) 8) (under 7 (λ m. all_under 4 (λ k. ltb (get_or (get_or face_corners m []) k 0) 8)) tt m l) k h)
  | inr l ↦ rw (get_or-eq_default face_corners [] l) (lit< tt)
]

pub corner_bound : (n : ℤ) (k : ℕ) → k < 4 → face_corner n k < 8
unfolding face_corner
corner_bound n k h = one_of_eight (nat_abs n) k h

pub corners_bound : (n : ℤ) (r : List ℕ) → r ≡ row_of n → All (λ k. k < 8) r
corners_bound n r e =
    rw (e) (All-from_recursion (λ (k : ℕ). k < 8) (row_of n) (corner_bound n 0 (lit< tt), (corner_bound n 1 (lit< tt), (corner_bound n 2 (lit< tt), (corner_bound n 3 (lit< tt), tt)))))

-- ---- what the code reads
pub squared : (q : Cube) (n : ℤ) (vs : List Float) (r : List ℕ) → vs ≡ corners q → r ≡ row_of n
    → ◌≡◌ {A = Square} (record { a = slice_index_or vs (slice_index_or r 0 0) nan; b = slice_index_or vs (slice_index_or r 1 0) nan; c = slice_index_or vs (slice_index_or r 2 0) nan; d = slice_index_or vs (slice_index_or r 3 0) nan }) (square_of q n)
unfolding corner_of
squared q n vs r ev er = rw (ev, er, at_corner _ _ (corner_bound n 0 (lit< tt)), at_corner _ _ (corner_bound n 1 (lit< tt)), at_corner _ _ (corner_bound n 2 (lit< tt)), at_corner _ _ (corner_bound n 3 (lit< tt)))
