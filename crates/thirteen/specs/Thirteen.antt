-- Document 01, 'Case-13 test', in binary32 alone. Definitions only.
use Rattle.std.specs.Prelude.{ℕ, Bool, true, false, cond, not, ◌&&◌, pos, Float}
use Rattle.std.specs.Float.{fin, binary32}
use Rattle.std.specs.Float.Ieee.{neg, add, sub, mul, div, lt}
use Rattle.binary32.specs.Numbers.{plus_zero, f32}
use Rattle.root.specs.Root.{root_of}
use Rattle.cube.specs.declared.Cube.{Cube}
use Rattle.cube.specs.Corners.{corner_of}
use Rattle.edge.specs.declared.Moves.{Moves}
use Rattle.edge.specs.Edge.{a_of, b_of, one}
use Rattle.edge.specs.Moves.{moves_of}

-- 4
abbrev pub four : Float
four = fin false 1 (pos 2)

-- strictly within 0 and 1
abbrev pub within : Float → Bool
within x = lt plus_zero x && lt x one

-- at t, x = (w1-w4)/n and y = (w1-w2)/n both lie strictly within 0 and 1, where n = w1+w3-w2-w4 left to right
unfoldable pub both_within : Moves → Float → Bool
both_within m t =
    let w1 = add binary32 m.u1 (mul binary32 m.g1 t) in
    let w2 = add binary32 m.u2 (mul binary32 m.g2 t) in
    let w3 = add binary32 m.u3 (mul binary32 m.g3 t) in
    let w4 = add binary32 m.u4 (mul binary32 m.g4 t) in
    let n = sub binary32 (sub binary32 (add binary32 w1 w3) w2) w4 in
    within (div binary32 (sub binary32 w1 w4) n) && within (div binary32 (sub binary32 w1 w2) n)

-- false only if t1, t2 and all four x and y lie strictly within 0 and 1
unfoldable pub answer_at : Moves → Float → Float → Bool
answer_at m t1 t2 = cond (within t1 && within t2) (not (both_within m t1 && both_within m t2)) true

-- a, b, places as edge 0; c = c1×c6 - c5×c2; delta = b×b - (4×a)×c; t1, t2 = (-b ± root)/(a + a)
unfoldable pub case13_by : (ℕ → Float) → Bool
case13_by corner =
    let m = moves_of corner (pos 0) in
    let a = a_of f32 m.g1 m.g2 m.g3 m.g4 in
    let b = b_of f32 m.u1 m.u2 m.u3 m.u4 m.g1 m.g2 m.g3 m.g4 in
    let c = sub binary32 (mul binary32 (corner 1) (corner 6)) (mul binary32 (corner 5) (corner 2)) in
    let delta = sub binary32 (mul binary32 b b) (mul binary32 (mul binary32 four a) c) in
    let root = root_of delta in
    answer_at m (div binary32 (add binary32 (neg b) root) (add binary32 a a)) (div binary32 (sub binary32 (neg b) root) (add binary32 a a))

unfoldable pub case13_of : Cube → Bool
case13_of q = case13_by (corner_of q)
