-- The moves of an edge in binary32, u and g = v - u of each, and what is read by them. The case-13 test is given over those of edge 0.
-- Definitions only.
use Rattle.std.specs.Prelude.{ℕ, ℤ, Float}
use Rattle.std.specs.Float.{binary32}
use Rattle.std.specs.Float.Ieee.{sub}
use Rattle.binary32.specs.Numbers.{f32}
use Rattle.edge.specs.declared.Moves.{Moves}
use Rattle.edge.specs.Edge.{Told, move_of, quotients, read_by}

-- by the corners' values
unfoldable pub moves_of : (ℕ → Float) → ℤ → Moves
moves_of corner n =
    let u : ℕ → Float = λ k. corner (move_of n k).u in
    let g : ℕ → Float = λ k. sub binary32 (corner (move_of n k).v) (corner (move_of n k).u) in
    record { u1 = u 0; u2 = u 1; u3 = u 2; u4 = u 3; g1 = g 0; g2 = g 1; g3 = g 2; g4 = g 3 }

-- their product at t
abbrev pub product_of : Moves → Float → Float
product_of m t =
    let w : Float → Float → Float = λ u g. quotients.place u g t in
    quotients.product (w m.u1 m.g1) (w m.u2 m.g2) (w m.u3 m.g3) (w m.u4 m.g4)

-- their reading
unfoldable pub read_of : Moves → Told Float
read_of m = read_by f32 quotients m.u1 m.u2 m.u3 m.u4 m.g1 m.g2 m.g3 m.g4
