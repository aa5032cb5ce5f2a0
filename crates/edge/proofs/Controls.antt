-- That the definition says something, by computation: each kind of reading, every edge, values at the ends of each test, overflow, NaN and each refusal.
-- The readings were made with the Rust source; values are written as bits. Assumes nothing.
use mathlib.Core.Path.{◌≡◌, refl}
use mathlib.Core.Bool.{true, false}
use mathlib.Core.List.{List, [], ◌∷◌, map}
use Prim.Native.Nat.{ℕ}
use lib.IntN.{ℤ, pos, negsuc}
use lib.Ieee.{binary32, of_bits, neg, add, sub, mul, div, lt, is_nan}
use Rattle.binary32.specs.Numbers.{f32}
use Rattle.cube.specs.declared.Cube.{Cube}
use Rattle.cube.specs.Corners.{corners, value_at, corner_of, all_finite, cube}
use Rattle.edge.specs.Edge.{moves, move_of, rising, beyond, crossed, blank, quotients, cross_by, read_by, valued, edge_by, edge_of, Said, reading, refused, edge_reading_of}

-- -16, -7, -6, 5, 8, 4, 7, -1
abbrev p : Cube
p = cube 0xc1800000 0xc0e00000 0xc0c00000 0x40a00000 0x41000000 0x40800000 0x40e00000 0xbf800000

-- -3, -1, 19, -4, -2, 16, 12, 6
abbrev q : Cube
q = cube 0xc0400000 0xbf800000 0x41980000 0xc0800000 0xc0000000 0x41800000 0x41400000 0x40c00000

-- x at corners 0 and 6, and -1 elsewhere
abbrev corners_0_and_6 : ℕ → Cube
corners_0_and_6 x = cube x 0xbf800000 0xbf800000 0xbf800000 0xbf800000 0xbf800000 x 0xbf800000

-- edge 0 with u→v of moves 1 and 3, and 0 elsewhere
abbrev moving : ℕ → ℕ → ℕ → ℕ → Cube
moving u1 v1 u3 v3 = cube v1 u1 0 0 0 0 u3 v3

abbrev passing : ℕ → Said
passing t = reading (beyond (of_bits binary32 t))

abbrev crossing : ℕ → ℕ → Said
crossing t product = reading (crossed (of_bits binary32 t) (of_bits binary32 product))

record Test : Type 0 where
  q : Cube
  edge : ℤ
  says : Said

abbrev test : Cube → ℤ → Said → Test
test q n s = record { q = q; edge = n; says = s }

tests : List Test
tests =
    -- every edge, crossed in one of two cubes with eight distinct corners, so that any wrong entry of the table shows; and two that rise
    test q (pos 0) (crossing 0x3f5c569b 0xc1919791)
    ∷ test p (pos 1) (crossing 0x3ef6db6e 0x41fc124a)
    ∷ test p (pos 2) (crossing 0x3f049249 0x41fc124a)
    ∷ test q (pos 3) (crossing 0x3e0ea592 0xc1919790)
    ∷ test p (pos 4) (crossing 0x3e78e38e 0x41440e38)
    ∷ test q (pos 5) (crossing 0x3e106907 0xc23b96fa)
    ∷ test q (pos 6) (crossing 0x3f5be5be 0xc23b96fa)
    ∷ test p (pos 7) (crossing 0x3f41c71c 0x41440e38)
    ∷ test q (pos 8) (crossing 0x3eaaaaab 0xc2255555)
    ∷ test p (pos 9) (crossing 0x3f180ad6 0x4015602b)
    ∷ test q (pos 10) (crossing 0x3eaaaaab 0xc2255555)
    ∷ test p (pos 11) (crossing 0x3f180ad6 0x4015602b)
    ∷ test p (pos 0) (reading rising)
    ∷ test q (pos 1) (reading rising)
    -- document 01's cubes of case 4: c0 = c6 = 3 at the three edges that are read, 9 and 1: the product zero, above and below
    ∷ test (corners_0_and_6 0x40400000) (pos 5) (crossing 0x3f000000 0)
    ∷ test (corners_0_and_6 0x40400000) (pos 3) (crossing 0x3f000000 0)
    ∷ test (corners_0_and_6 0x40400000) (pos 8) (crossing 0x3f000000 0)
    ∷ test (corners_0_and_6 0x41100000) (pos 5) (crossing 0x3f000000 0x41700000)
    ∷ test (corners_0_and_6 0x3f800000) (pos 5) (crossing 0x3f000000 0xbf800000)
    -- t = -b/(2×a): 0 where b is 0, -0 where b is -0, and 1, crossed
    ∷ test (moving 0x3f800000 0x40000000 0x3f800000 0) (pos 0) (crossing 0 0x3f800000)
    ∷ test (moving 0 0x3f800000 0x80000000 0xbf800000) (pos 0) (crossing 0x80000000 0)
    ∷ test (moving 0 0x3f800000 0x40000000 0x3f800000) (pos 0) (crossing 0x3f800000 0x3f800000)
    -- beyond: -1 and 1.5, one step below 0 and one above 1; infinite where a is 0
    ∷ test (moving 0x40000000 0x40400000 0 0xbf800000) (pos 0) (passing 0xbf800000)
    ∷ test (moving 0 0x3f800000 0x40400000 0x40000000) (pos 0) (passing 0x3fc00000)
    ∷ test (moving 0x00000002 0x3f800000 0 0xbf800000) (pos 0) (passing 0x80000001)
    ∷ test (moving 0 0x3f800000 0x40000001 0x3f800002) (pos 0) (passing 0x3f800001)
    ∷ test (moving 0 0x3f800000 0x3f800000 0x3f800000) (pos 0) (passing 0xff800000)
    ∷ test (moving 0 0x3f800000 0xbf800000 0xbf800000) (pos 0) (passing 0x7f800000)
    -- 2×a and a overflow
    ∷ test (moving 0 0x5f800000 0x5f000000 0) (pos 0) (crossing 0 0)
    ∷ test (cube 0x5f800000 0x3f800000 0x3f800000 0x3f800000 0x3f800000 0x3f800000 0x40000000 0xdf800000) (pos 0) (crossing 0 0x3f800000)
    -- blank: b and a are 0; a is a NaN; t is 0 and both of the product's products overflow
    ∷ test (cube 0x3f800000 0x3f800000 0x3f800000 0x3f800000 0x3f800000 0x3f800000 0x3f800000 0x3f800000) (pos 0) (reading blank)
    ∷ test (cube 0x5f800000 0 0 0x5f800000 0x5f800000 0 0 0x5f800000) (pos 0) (reading blank)
    ∷ test (cube 0x5f800200 0x5f800000 0x5f800000 0x5f800000 0x5f800000 0x5f800000 0x5f800000 0x5f7ffc00) (pos 0) (reading blank)
    -- by rounding: the order of b's terms, and their grouping; the places are not (1 - t)×u + t×v; the product is not a×t² + b×t + c
    ∷ test (cube 0x3ffd70a4 0xc0cbd70a 0x40ef5c29 0xc0b2e148 0xc0d851ec 0xbd75c28f 0x40633333 0xc0251eb8) (pos 9) (crossing 0x3f1bf768 0x41d3faa0)
    ∷ test (cube 0x3f11eb85 0xc11ca3d7 0x40470a3d 0x40d66666 0x4119999a 0x40a051ec 0x410d70a4 0x3fd851ec) (pos 11) (crossing 0x3eeda268 0xc220fce0)
    ∷ test (cube 0xc0233333 0x40c6b852 0x4111eb85 0xbe4ccccd 0x40b80000 0xc0c3851f 0xc0bccccd 0x3fd70a3d) (pos 8) (crossing 0x3efbd921 0x4022ec54)
    ∷ test (cube 0x3f70a3d7 0x41080000 0x404b851f 0xbec7ae14 0x40e51eb8 0x41170a3d 0xc11c28f6 0xc118cccd) (pos 10) (crossing 0x3f18df1a 0x41ff7a8d)
    -- refusal 5 comes before 3
    ∷ test q (pos 12) (refused 5)
    ∷ test q (negsuc 0) (refused 5)
    ∷ test q (pos 127) (refused 5)
    ∷ test q (negsuc 127) (refused 5)
    ∷ test (cube 0x7fc00000 0 0 0 0 0 0 0) (pos 12) (refused 5)
    ∷ test (cube 0 0 0 0 0 0 0 0x7f800000) (negsuc 0) (refused 5)
    ∷ test (cube 0x7fc00000 0 0 0 0 0 0 0) (pos 0) (refused 3)
    ∷ test (cube 0 0 0 0 0 0 0 0x7f800000) (pos 0) (refused 3)
    ∷ test (cube 0 0 0 0xff800000 0 0 0 0) (pos 11) (refused 3)
    ∷ []

tests_hold : map (λ t. edge_reading_of t.q t.edge) tests ≡ map (λ t. t.says) tests
unfolding tests edge_reading_of edge_of edge_by read_by cross_by move_of moves corner_of value_at corners all_finite of_bits neg add sub mul div lt is_nan
tests_hold = refl

-- the value is 1 where rising, beyond, and with a product below zero: -1; not at -0, 0, 1 and not where blank
values_hold :
    map (valued f32 quotients) (rising ∷ beyond (of_bits binary32 0xbf800000) ∷ beyond (of_bits binary32 0x3fc00000) ∷ blank ∷ map (λ p. crossed (of_bits binary32 0) (of_bits binary32 p)) (0xbf800000 ∷ 0x80000000 ∷ 0 ∷ 0x3f800000 ∷ []))
    ≡ true ∷ true ∷ true ∷ false ∷ true ∷ false ∷ false ∷ false ∷ []
unfolding of_bits lt
values_hold = refl
