-- That the definition says something, by computation: each way through the test, values at the ends of each interval, overflow, NaN and rounding.
-- The answers were made with the Rust source; values are written as bits. Assumes nothing.
use mathlib.Core.Path.{◌≡◌, refl}
use mathlib.Core.Bool.{Bool, true, false}
use mathlib.Core.List.{List, [], ◌∷◌, map}
use Prim.Native.Nat.{ℕ}
use lib.Ieee.{of_bits, neg, add, sub, mul, div, lt}
use Rattle.root.specs.Root.{root_within, whole_root, root_units, root_of}
use Rattle.cube.specs.declared.Cube.{Cube}
use Rattle.cube.specs.Corners.{corners, value_at, corner_of, cube}
use Rattle.edge.specs.Edge.{moves, move_of}
use Rattle.edge.specs.Moves.{moves_of}
use Rattle.thirteen.specs.Thirteen.{both_within, answer_at, case13_by, case13_of}

-- 1, 2, -1 and -2
abbrev p1 : ℕ
p1 = 0x3f800000

abbrev p2 : ℕ
p2 = 0x40000000

abbrev n1 : ℕ
n1 = 0xbf800000

abbrev n2 : ℕ
n2 = 0xc0000000

record Test : Type 0 where
  q : Cube
  says : Bool

abbrev test : Cube → Bool → Test
test q s = record { q = q; says = s }

tests : List Test
tests =
    -- both t and all four x and y within: a below 0; a above 0 with t1 = t2; eight distinct corners
    test (cube 0xbf800000 0x40400000 0xc0800000 0 0 0xc0000000 0x3f800000 0x40400000) false
    ∷ test (cube 0xbf800000 0xbf800000 0x40400000 0x3f800000 0x40400000 0x3f800000 0xc0800000 0xc0800000) false
    ∷ test (cube 0xc1700000 0x41400000 0x3f800000 0x41600000 0x41200000 0 0xc1980000 0xc1100000) false
    -- one of the six alone not within: below 0, at 0, at 1 and above 1; first t1, then t2, x1, y1, x2, y2
    ∷ test (cube 0 n1 0 n2 n2 0 n1 0) true
    ∷ test (cube 0 p1 n1 p1 p1 n1 p1 0) true
    ∷ test (cube n1 p1 0 p1 p1 0 p1 n1) true
    ∷ test (cube p1 n1 p1 0 0 p1 n2 n1) true
    ∷ test (cube n2 0 n1 0 0 n1 0 n2) true
    ∷ test (cube 0 n1 p1 n1 p2 p1 n1 0) true
    ∷ test (cube p1 0 p1 n1 n1 p1 0 p1) true
    ∷ test (cube n1 0 n2 0 0 n2 0 n1) true
    ∷ test (cube 0 n1 0 p1 p1 n2 p1 n1) true
    ∷ test (cube p1 n1 p1 n1 n1 0 p2 0) true
    ∷ test (cube 0 p2 0 n1 n1 p1 n1 p1) true
    ∷ test (cube 0 p1 0 n1 p1 n2 p1 n1) true
    ∷ test (cube n1 p1 0 n1 p1 n2 p1 0) true
    ∷ test (cube n1 p1 0 n2 p1 n1 p1 0) true
    ∷ test (cube 0 n2 n1 p1 p1 0 p1 n1) true
    ∷ test (cube 0 p1 p1 n1 n1 0 n1 p2) true
    ∷ test (cube p1 n1 p1 n2 0 n1 0 p1) true
    ∷ test (cube p1 n1 p1 n1 0 n2 0 p1) true
    ∷ test (cube p1 0 n2 0 n1 p1 n1 p1) true
    ∷ test (cube p1 0 n1 0 p1 n1 p2 n1) true
    ∷ test (cube n1 0 n1 p1 0 p1 p2 n1) true
    ∷ test (cube p1 n1 n1 0 n2 p2 0 p1) true
    ∷ test (cube p2 0 n1 p1 0 n1 p1 n1) true
    ∷ test (cube n1 p2 p1 0 p1 n1 0 n1) true
    -- delta below 0, where with 2 for 4 it is above
    ∷ test (cube 0x41a00000 0xc1600000 0xc1100000 0xc1700000 0xc1000000 0xc1300000 0x41100000 0) true
    -- a is 0: both t NaN; t1 NaN and t2 infinite; t1 infinite and t2 NaN
    ∷ test (cube p1 p1 p1 p1 p1 p1 p1 p1) true
    ∷ test (cube p1 0 0 0 0 0 p1 p1) true
    ∷ test (cube p1 0 0 0 0 0 n1 n1) true
    -- 4×a overflows where 4×(a×c) does not; b×b overflows; a is NaN; a corner is NaN, then infinite
    ∷ test (cube 0x5f400000 0xbe800000 0xbf400000 0xde800000 0xde800000 0 0x3f400000 0xde800000) true
    ∷ test (cube 0xdf800000 0x3f400000 0x3f400000 0x5f400000 0x5f400000 0xbf400000 0x3f000000 0xdf400000) true
    ∷ test (cube 0x5f800000 0 0 0x5f800000 0x5f800000 0 0 0x5f800000) true
    ∷ test (cube 0x7fc00000 0x40400000 0xc0800000 0 0 0xc0000000 0x3f800000 0x40400000) true
    ∷ test (cube 0xff800000 0x40400000 0xc0800000 0 0 0xc0000000 0x3f800000 0x40400000) true
    -- a×c is below the normal values, so that 4×(a×c) is rounded elsewhere
    ∷ test (cube 0x2c000000 0x2c980000 0xac200000 0xac300000 0xaca00000 0xabc00000 0xac900000 0x2c300000) false
    ∷ test (cube 0xac800000 0xabc00000 0x2c800000 0xac600000 0x2c600000 0xac200000 0xaca00000 0xacc00000) true
    -- by rounding: the order of b's terms, and their grouping; b×b is not fused with the difference; the root is neither one step above nor one below
    ∷ test (cube 0xc1175c29 0x3f451eb8 0x40933333 0xc0666666 0x41180000 0x404147ae 0xc11e3d71 0x40f7ae14) true
    ∷ test (cube 0x3f59999a 0xbf19999a 0x402851ec 0xc038f5c3 0xbfd33333 0xc0c28f5c 0x411eb852 0x40b3851f) true
    ∷ test (cube 0x411e147b 0xbffae148 0x410d1eb8 0xc011eb85 0xc0d00000 0xc119c28f 0xc0b8f5c3 0x3fc00000) true
    ∷ test (cube 0x407e147b 0xbea8f5c3 0x409d70a4 0xc1051eb8 0xbf170a3d 0xc1000000 0xc06c28f6 0x40c7ae14) false
    ∷ test (cube 0x40800000 0xbf800000 0x3f800000 0xc0800000 0xbf800000 0xc0400000 0xbf800000 0x40800000) true
    -- t2 is not c/(a×t1); the places are not (1 - t)×u + t×v; n is not w1-w2+w3-w4, nor w1+w3-w4-w2, nor (w1+w3)-(w2+w4)
    ∷ test (cube 0xc0a00000 0x40000000 0xc0c00000 0x41700000 0x40800000 0x40400000 0xbf800000 0xc1880000) false
    ∷ test (cube 0xc0000000 0x40400000 0xc0400000 0x40800000 0x40000000 0xc0400000 0xc0800000 0xbf800000) true
    ∷ test (cube 0xc0800000 0x40000000 0x3f800000 0 0 0x3f800000 0 0x40800000) false
    ∷ test (cube 0xc1700000 0x41880000 0x41a00000 0 0x40c00000 0xc0e00000 0x40e00000 0xc0c00000) false
    ∷ []

tests_hold : map (λ t. case13_of t.q) tests ≡ map (λ t. t.says) tests
unfolding tests case13_of case13_by answer_at both_within moves_of move_of moves corner_of value_at corners root_of root_units whole_root root_within of_bits neg add sub mul div lt
tests_hold = refl
