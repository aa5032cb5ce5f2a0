-- Document 01, 'Diagonal pick', and document 02, Change 4, over any kind of number. Definitions only.
use Rattle.std.specs.Prelude.{ℕ, ◌≤◌, Bool, true, false, cond, ◌&&◌, ◌||◌, leb, ℤ, get_or}
use mathlib.Core.List.{List, [], ◌∷◌, map, foldr}
use Rattle.binary32.specs.Numbers.{Numbers}

-- a pair of corners and the edge that it leads to
pub record Diagonal : Type 0 where
  pub one : ℕ
  pub other : ℕ
  pub edge : ℕ

abbrev pub pair : ℕ → ℕ → ℕ → Diagonal
pair k l n = record { one = k; other = l; edge = n }

-- faces 1 and 3
abbrev pub diagonals13 : List Diagonal
diagonals13 = pair 1 7 4 ∷ pair 0 6 5 ∷ pair 3 5 6 ∷ pair 2 4 7 ∷ []

-- faces 2 and 4
abbrev pub diagonals24 : List Diagonal
diagonals24 = pair 1 7 0 ∷ pair 2 4 1 ∷ pair 3 5 2 ∷ pair 0 6 3 ∷ []

-- faces 5 and 6
abbrev pub diagonals56 : List Diagonal
diagonals56 = pair 0 6 8 ∷ pair 1 7 9 ∷ pair 2 4 10 ∷ pair 3 5 11 ∷ []

-- an ambiguous face is one of 1 to 6
abbrev pub IsAmbiguousFace : ℕ → Type 0
IsAmbiguousFace n = (1 ≤ n) × (n ≤ 6)

-- the same as a test, and of each of a list
abbrev pub is_ambiguous_face : ℕ → Bool
is_ambiguous_face n = leb 1 n && leb n 6

abbrev pub are_ambiguous_faces : List ℕ → Bool
are_ambiguous_faces faces = foldr ◌&&◌ true (map is_ambiguous_face faces)

-- by ambiguous face; there is no face 0
unfoldable pub diagonals : List (List Diagonal)
diagonals = [] ∷ diagonals13 ∷ diagonals24 ∷ diagonals13 ∷ diagonals24 ∷ diagonals56 ∷ diagonals56 ∷ []

-- pairs tried in order, the last match stands; `edge` stands so far
unfoldable pub last_match : (Diagonal → Bool) → ℕ → List Diagonal → ℕ
last_match matches edge [] = edge
last_match matches edge (d ∷ ds) = last_match matches (cond (matches d) d.edge edge) ds

-- whether any pair matches
unfoldable pub any_match : (Diagonal → Bool) → List Diagonal → Bool
any_match matches ds = foldr ◌||◌ false (map matches ds)

-- what is picked: the edge, and whether any pair matched
pub record Picked : Type 0 where
  pub edge : ℕ
  pub matched : Bool

-- no match: edge 0
unfoldable pub pick_with : (Diagonal → Bool) → ℕ → Picked
pick_with matches n = let ds = get_or diagonals n [] in record { edge = last_match matches 0 ds; matched = any_match matches ds }

module _ (K : Numbers) where
  open K use {N, times, small, above}

  -- a pair matches if both corners times s are above 0
  abbrev pub matches_by : (ℕ → N) → ℤ → Diagonal → Bool
  matches_by corner s d = above (times (corner d.one) (small s)) && above (times (corner d.other) (small s))

  -- whether any of the four pairs matches; each face has the same four
  unfoldable pub any_pair : (ℕ → N) → ℤ → Bool
  any_pair corner s = any_match (matches_by corner s) diagonals56

  unfoldable pub pick_by : (ℕ → N) → ℤ → ℕ → Picked
  pick_by corner s n = pick_with (matches_by corner s) n
