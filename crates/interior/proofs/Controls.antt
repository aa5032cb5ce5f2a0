-- That the definitions say something, by computation: diagonal picks for each face with each pair, with two at once and with none; and interior tests.
-- Expected edges, matches, values and counts are those of the Rust. Values are written as bits. Assumes nothing.
use mathlib.Core.Path.{◌≡◌, refl}
use mathlib.Core.Bool.{Bool, true, false}
use mathlib.Core.List.{List, [], ◌∷◌, map}
use Prim.Native.Nat.{ℕ}
use lib.IntN.{ℤ, pos, negsuc}
use lib.Ieee.{of_bits, neg, add, sub, mul, div, lt, eq, is_nan, of_int}
use Rattle.binary32.specs.Numbers.{f32}
use Rattle.cube.specs.declared.Cube.{Cube}
use Rattle.cube.specs.Corners.{corners, value_at, corner_of, cube}
use Rattle.edge.specs.Edge.{moves, move_of, cross_by, read_by, edge_by}
use Rattle.interior.specs.declared.Sight.{Sight}
use Rattle.interior.specs.Pick.{diagonals, last_match, any_match, Picked, pick_with, pick_by}
use Rattle.interior.specs.Interior.{seen, joined, seen_as, look_at, inside_by, inside_of}

-- 1, -1 and -0
abbrev up : ℕ
up = 0x3f800000

abbrev down : ℕ
down = 0xbf800000

abbrev minus_zero : ℕ
minus_zero = 0x80000000

-- ---- picks: the edges for faces 1 to 6
record Row : Type 0 where
  q : Cube
  s : ℤ
  says : List Picked

-- by a match
abbrev row : Cube → ℤ → ℕ → ℕ → ℕ → ℕ → ℕ → ℕ → Row
row q s a b c d e f = record { q = q; s = s; says = map (λ n. record { edge = n; matched = true }) (a ∷ b ∷ c ∷ d ∷ e ∷ f ∷ []) }

-- without one edge 0 is left over
abbrev left : Cube → ℤ → Row
left q s = record { q = q; s = s; says = map (λ (n : ℕ). record { edge = 0; matched = false }) (1 ∷ 2 ∷ 3 ∷ 4 ∷ 5 ∷ 6 ∷ []) }

rows : List Row
rows =
    -- one pair alone; edge 0 by a match of the second
    row (cube up down down down down down up down) (pos 7) 5 3 5 3 8 8
    ∷ row (cube down up down down down down down up) (pos 7) 4 0 4 0 9 9
    ∷ row (cube down down up down up down down down) (pos 7) 7 1 7 1 10 10
    ∷ row (cube down down down up down up down down) (pos 7) 6 2 6 2 11 11
    -- two at once: the last of the order stands
    ∷ row (cube up up down down down down up up) (pos 7) 5 3 5 3 9 9
    ∷ row (cube up down up down up down up down) (pos 7) 7 3 7 3 10 10
    ∷ row (cube up down down up down up up down) (pos 7) 6 3 6 3 11 11
    ∷ row (cube down up up down up down down up) (pos 7) 7 1 7 1 10 10
    ∷ row (cube down up down up down up down up) (pos 7) 6 2 6 2 11 11
    ∷ row (cube down down up up up up down down) (pos 7) 7 2 7 2 11 11
    -- all four; none: edge 0
    ∷ row (cube up up up up up up up up) (pos 7) 7 3 7 3 11 11
    ∷ left (cube down down down down down down down down) (pos 7)
    -- zeros match nothing, and neither does one corner of each pair
    ∷ left (cube 0 0 0 0 0 0 0 0) (pos 7)
    ∷ left (cube minus_zero minus_zero minus_zero minus_zero minus_zero minus_zero minus_zero minus_zero) (negsuc 6)
    ∷ left (cube up up up up down down down down) (pos 7)
    ∷ left (cube down down down down up up up up) (pos 7)
    -- s below zero turns the signs; s = 0 matches nothing
    ∷ row (cube up down down up down up up down) (negsuc 6) 7 1 7 1 10 10
    ∷ row (cube down up up down up down down up) (negsuc 0) 6 3 6 3 11 11
    ∷ row (cube down down down down down down down down) (negsuc 127) 7 3 7 3 11 11
    ∷ left (cube up up up up up up up up) (pos 0)
    -- 7 times 2 ^ 127 is infinite and above 0; the smallest value is above 0; a NaN matches nothing
    ∷ row (cube 0x7f000000 down down down down down 0x7f000000 down) (pos 7) 5 3 5 3 8 8
    ∷ row (cube down 1 down down down down down 1) (pos 1) 4 0 4 0 9 9
    ∷ left (cube down down 0x7fc00000 down 0x7fc00000 down down down) (pos 7)
    ∷ []

rows_hold : map (λ t. map (pick_by f32 (corner_of t.q) t.s) (1 ∷ 2 ∷ 3 ∷ 4 ∷ 5 ∷ 6 ∷ [])) rows ≡ map (λ t. t.says) rows
unfolding rows pick_by pick_with last_match any_match diagonals corner_of value_at corners of_bits mul lt of_int
rows_hold = refl

-- ---- interior tests
record Test : Type 0 where
  q : Cube
  faces : List ℕ
  s : ℤ
  says : Sight

abbrev test : Cube → List ℕ → ℤ → Sight → Test
test q ns s l = record { q = q; faces = ns; s = s; says = l }

-- the value, unsettled, unmatched and readings, one for each face
abbrev sees : Bool → ℕ → ℕ → ℕ → Sight
sees b n k l = seen b (record { unsettled = n; unmatched = k; readings = l })

-- those of cases 4 and 7
abbrev three : List ℕ
three = 1 ∷ 2 ∷ 5 ∷ []

abbrev mixed : Cube
mixed = cube 0x40400000 0xc0400000 0x40800000 down up down 0x40800000 0xc0400000

-- no pair is above 0
abbrev apart : Cube
apart = cube 0xc0000000 0xc0400000 down 0xc0000000 0xc0400000 up 0x40400000 down

tests : List Test
tests =
    -- document 01's cubes of case 4, s as TEST_4 has it: c0 = c6 = 1, 9 and 3; all 1
    test (cube up down down down down down up down) three (pos 7) (sees true 0 0 3)
    ∷ test (cube 0x41100000 down down down down down 0x41100000 down) three (pos 7) (sees false 0 0 3)
    ∷ test (cube 0x40400000 down down down down down 0x40400000 down) three (pos 7) (sees false 3 0 3)
    ∷ test (cube up up up up up up up up) three (pos 7) (sees false 3 0 3)
    -- the third with other signs and s = -7
    ∷ test (cube 0xc0400000 up up up up up 0xc0400000 up) three (negsuc 6) (sees false 3 0 3)
    -- true by the first reading alone, by the second, by the third; counts of the others stand
    ∷ test (cube 0xc0000000 up 0xc0400000 0x40800000 0x40400000 0xc0000000 0x40800000 0x40400000) three (pos 7) (sees true 2 0 3)
    ∷ test (cube 0xc0000000 down 0x40400000 0x40400000 up down down 0xc0000000) three (pos 7) (sees true 2 0 3)
    ∷ test mixed three (pos 7) (sees true 2 0 3)
    -- the last one by fewer faces, and by a face twice
    ∷ test mixed (1 ∷ []) (pos 7) (sees false 1 0 1)
    ∷ test mixed (5 ∷ []) (pos 7) (sees true 0 0 1)
    ∷ test mixed (1 ∷ 2 ∷ []) (pos 7) (sees false 2 0 2)
    ∷ test mixed (2 ∷ 5 ∷ []) (pos 7) (sees true 1 0 2)
    ∷ test mixed (5 ∷ 2 ∷ []) (pos 7) (sees true 1 0 2)
    ∷ test mixed (1 ∷ 1 ∷ []) (pos 7) (sees false 2 0 2)
    -- one product of zero and two blank readings; three blank ones
    ∷ test (cube down 0x40000000 0x40800000 0xc0000000 up 0xc0000000 0xc0000000 up) three (pos 7) (sees false 3 0 3)
    ∷ test (cube 0 0 0 0 0 0 0 0) three (pos 7) (sees false 3 3 3)
    -- no pair matches: edge 0 is read each time; unsettled, settled, and true
    ∷ test (cube 0x40000000 0xc0000000 0x40400000 0xc0400000 0xc0000000 0x40000000 0xc0000000 0x40000000) three (pos 7) (sees false 3 3 3)
    ∷ test (cube 0xc0400000 0x40000000 up 0xc0000000 0xc0400000 0x40400000 up down) three (pos 7) (sees false 0 3 3)
    ∷ test apart three (pos 7) (sees true 0 3 3)
    -- the last one by fewer faces, and with a match for s = -7
    ∷ test apart (2 ∷ []) (pos 7) (sees true 0 1 1)
    ∷ test apart (4 ∷ 6 ∷ []) (pos 7) (sees true 0 2 2)
    ∷ test apart three (negsuc 6) (sees true 0 0 3)
    -- edge 0 by a match of corners 1 and 7: read, and none is without a match
    ∷ test (cube down up down down down down down up) (2 ∷ []) (pos 7) (sees true 0 0 1)
    ∷ []

tests_hold : map (λ t. inside_of t.q t.faces t.s) tests ≡ map (λ t. t.says) tests
unfolding tests inside_of inside_by joined look_at seen_as edge_by read_by cross_by move_of moves pick_by pick_with last_match any_match diagonals corner_of value_at corners of_bits neg add sub mul div lt eq is_nan of_int
tests_hold = refl
