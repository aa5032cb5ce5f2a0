-- How the code of the edge reading keeps its table. Definitions only.
use Rattle.std.specs.Prelude.{ℕ, cond, List, [], ◌∷◌, map, ℤ, nat_abs, Option, Some, None}
use Rattle.edge.specs.Edge.{Move, move_of, is_edge}

-- the edge's place in the table, where there is such an edge
abbrev pub place_of : ℤ → Option ℕ
place_of n = cond (is_edge n) (Some (nat_abs n)) None

-- a move's corners, as the code has them
abbrev pub ends_of : Move → ℕ × ℕ
ends_of m = (m.u, m.v)

-- moves 1 to 4 of an edge
abbrev pub row_of : ℤ → List (ℕ × ℕ)
row_of n = map (λ k. ends_of (move_of n k)) (0 ∷ 1 ∷ 2 ∷ 3 ∷ [])
