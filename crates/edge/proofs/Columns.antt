-- The code's table has document 01's moves, and a number that is no edge the moves from corner 0 to itself. Assumes nothing.
use mathlib.Core.Path.{◌≡◌, refl, sym, ap, ◌∙◌}
use mathlib.Core.Logic.{inl, inr}
use mathlib.Core.Bool.{Bool, true, false, cond, ◌&&◌, true≢false}
use mathlib.Core.List.{List, [], ◌∷◌, map}
use Prim.Native.Nat.{ℕ, ◌<◌}
use borrow.Author.Tests.{ltb-true, ltb-false}
use lib.Dec.{T, ltb, lit<, ltb→lt}
use lib.IntN.{ℤ, pos, negsuc}
use lib.ListN.{get_or, get_or-eq_default}
use lib.Ieee.Fits.{and_l, and_r}
use Rattle.std.specs.Prelude.{Option, Some, None, is_some, slice_index_or}
use Rattle.std.specs.List.{All}
use Rattle.std.specs.Option.{unwrap_or}
use Rattle.std.proofs.lemmas.Bool.{cases_lt}
use Rattle.std.proofs.lemmas.List.Elements.{All-from_recursion}
use Rattle.cube.proofs.Table.{all_under, under, agree}
use Rattle.edge.specs.Edge.{Move, ◌⟶◌, moves, move_of}
use Rattle.edge.specs.Columns.{ends_of, place_of, row_of}

-- the code's table
abbrev pub rows : List (List (ℕ × ℕ))
rows = map (map ends_of) moves

some_by : (b : Bool) (m k : ℕ) → Some k ≡ cond b (Some m) None → (b ≡ true) × (k ≡ m)
some_by true m k e = (refl, ap (λ (o : Option ℕ). unwrap_or o 0) e)
some_by false m k e = absurd (true≢false (ap is_some e))

none_by : (b : Bool) (m : ℕ) → None ≡ cond b (Some m) None → b ≡ false
none_by true m e = absurd (true≢false (sym (ap is_some e)))
none_by false m e = refl

placed : (n : ℤ) (k : ℕ) → Some k ≡ place_of n → slice_index_or rows k [] ≡ row_of n
unfolding moves move_of
placed (pos m) k e =
    let s = some_by (ltb m 12) m k e in
    rw (s.1) (agree (λ i. slice_index_or rows i []) (λ i. row_of (pos i)) 12 refl m (ltb-true m 12 s.0))
placed (negsuc m) k e = absurd (true≢false (ap is_some e))

unplaced : (n : ℤ) → None ≡ place_of n → (0, 0) ∷ (0, 0) ∷ (0, 0) ∷ (0, 0) ∷ [] ≡ row_of n
unfolding moves move_of
unplaced (pos m) e = let l = ltb-false m 12 (none_by (ltb m 12) m e) in rw (get_or-eq_default moves [] l)
unplaced (negsuc m) e = refl

module _ (n : ℤ) (p : Option ℕ) (e : p ≡ place_of n) where
  pub found : (k : ℕ) → p ≡ Some k → slice_index_or rows k [] ≡ row_of n
  found k h = placed n k (sym h ∙ e)

  pub none : p ≡ None → (0, 0) ∷ (0, 0) ∷ (0, 0) ∷ (0, 0) ∷ [] ≡ row_of n
  none h = unplaced n (sym h ∙ e)

-- ---- the corners of each move are two of the eight
abbrev entry : ℕ → ℕ → Move
entry m k = get_or (get_or moves m []) k (0 ⟶ 0)

abbrev in_the_cube : Move → Bool
in_the_cube m = ltb m.u 8 && ltb m.v 8

entry_bound : (m k : ℕ) → k < 4 → T (in_the_cube (entry m k))
unfolding moves
entry_bound m k h = elim (cases_lt m 12) [
  | inl l ↦ under 4 (λ k. in_the_cube (entry m k)) (under 12 (λ m. all_under 4 (λ k. in_the_cube (entry m k))) tt m l) k h
  | inr l ↦ rw (get_or-eq_default moves [] l) tt
]

bound_of : (m : Move) → T (in_the_cube m) → (m.u < 8) × (m.v < 8)
bound_of m t = (ltb→lt m.u 8 (and_l (ltb m.u 8) (ltb m.v 8) t), ltb→lt m.v 8 (and_r (ltb m.u 8) (ltb m.v 8) t))

move_bound : (n : ℤ) (k : ℕ) → k < 4 → ((move_of n k).u < 8) × ((move_of n k).v < 8)
unfolding move_of
move_bound (pos m) k h = bound_of (entry m k) (entry_bound m k h)
move_bound (negsuc m) k h = (lit< tt, lit< tt)

pub row_bound : (n : ℤ) (r : List (ℕ × ℕ)) → r ≡ row_of n → All (λ m. (m.0 < 8) × (m.1 < 8)) r
row_bound n r e =
    rw (e) (All-from_recursion (λ (m : ℕ × ℕ). (m.0 < 8) × (m.1 < 8)) (row_of n) (move_bound n 0 (lit< tt), (move_bound n 1 (lit< tt), (move_bound n 2 (lit< tt), (move_bound n 3 (lit< tt), tt)))))
