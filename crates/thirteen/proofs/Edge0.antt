-- The case-13 test from what the code finds in turn; edge 0's u1×u3 - u2×u4 is document 01's c1×c6 - c5×c2. Assumes nothing.
use mathlib.Core.Path.{◌≡◌}
use mathlib.Core.Bool.{Bool}
use mathlib.Core.List.{List}
use lib.IntN.{pos}
use lib.Ieee.{Float, binary32, neg, add, sub, mul, div, of_bits}
use Rattle.binary32.specs.Numbers.{f32}
use Rattle.root.specs.Root.{root_of}
use Rattle.cube.specs.declared.Cube.{Cube}
use Rattle.cube.specs.Corners.{corners, value_at, corner_of}
use Rattle.edge.specs.declared.Moves.{Moves}
use Rattle.edge.specs.Edge.{a_of, b_of, moves, move_of}
use Rattle.edge.specs.Moves.{moves_of}
use Rattle.thirteen.specs.Thirteen.{answer_at, case13_by, case13_of}

-- 4 has the bits 0x40800000
pub by_edge_0 : (q : Cube) (vs : List Float) (m : Moves) (a b root : Float) (r : Bool)
    → vs ≡ corners q
    → m ≡ moves_of (value_at vs) (pos 0)
    → a ≡ a_of f32 m.g1 m.g2 m.g3 m.g4
    → b ≡ b_of f32 m.u1 m.u2 m.u3 m.u4 m.g1 m.g2 m.g3 m.g4
    → root ≡ root_of (sub binary32 (mul binary32 b b) (mul binary32 (mul binary32 (of_bits binary32 0x40800000) a) (sub binary32 (mul binary32 m.u1 m.u3) (mul binary32 m.u2 m.u4))))
    → r ≡ answer_at m (div binary32 (add binary32 (neg b) root) (add binary32 a a)) (div binary32 (sub binary32 (neg b) root) (add binary32 a a))
    → r ≡ case13_of q
unfolding case13_of case13_by corner_of moves_of move_of moves of_bits
by_edge_0 q vs m a b root r ev em ea eb eroot er = rw (er, eroot, eb, ea, em, ev)
