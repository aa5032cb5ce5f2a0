-- That the definitions say something, by computation: each refusal, at its edges and in document 01's order; each of the 38 tilings; each number of unsettled
-- readings that the ranges allow, of picks without a match and of readings in all; what the ranges do not allow; which inner numbers would leave their tables. Values are written as bits.
-- Assumes nothing.
use mathlib.Core.Path.{◌≡◌, refl}
use mathlib.Core.Bool.{Bool, true, false, cond}
use mathlib.Core.List.{List, [], ◌∷◌, ◌++◌, map, foldr}
use Prim.Native.Nat.{ℕ, suc}
use lib.Dec.{eqb}
use lib.IntN.{ℤ, pos, negsuc}
use lib.Ieee.{of_bits, neg, add, sub, mul, div, lt, eq, le, is_nan, of_int}
use Rattle.root.specs.Root.{root_within, whole_root, root_units, root_of}
use Rattle.cube.specs.declared.Cube.{Cube}
use Rattle.cube.specs.Corners.{corners, value_at, corner_of, all_finite, cube}
use Rattle.face.specs.Face.{face_corners, face_corner, rule, face_by, face_of}
use Rattle.edge.specs.Edge.{moves, move_of, cross_by, read_by, edge_by}
use Rattle.edge.specs.Moves.{moves_of}
use Rattle.interior.specs.Pick.{diagonals, last_match, any_match, pick_with, pick_by}
use Rattle.interior.specs.Interior.{joined, seen_as, look_at, inside_by, inside_of}
use Rattle.thirteen.specs.Thirteen.{both_within, answer_at, case13_by, case13_of}
use Rattle.tilings.specs.Tilings.{configurations, tilings_of, columns_of, has_centre}
use Rattle.tilings.specs.Plan as Plan
use Rattle.tilings.specs.Plan.{Plan, ask, face, inside, inside13, ask_in_turn, Chosen, empty, no_tiling, tiling, reach, settled, run}
use Rattle.two_faces.specs.Tables.{TEST_10, TEST_12}
use Rattle.two_faces.specs.Plans.{two_faces, plan10, plan12}
use Rattle.family_13.specs.Tables.{TEST_13, SUB_CONFIG_13}
use Rattle.family_13.specs.Plans.{parts13, last_from, tile13, part13, plan13}
use Rattle.families.specs.Tables.{TEST_3, TEST_4, TEST_6, TEST_7}
use Rattle.families.specs.Plans.{plan3, plan4, plan6, part7, plan7, plans, plan_of}
use Rattle.choice.specs.Choice.{Said, made, refused, refusal_of, choice_of, answer_of}
use Rattle.choice.specs.Inner.{hands_on, is_offset}
use Rattle.choice.specs.Figures.{figures}
use Rattle.choice.specs.Ranges.{holds_minus1, placed, in_ranges, said_in_ranges}

record Test : Type 0 where
  case : ℤ
  configuration : ℤ
  q : Cube
  says : Said

abbrev test : ℤ → ℤ → Cube → Said → Test
test k c q s = record { case = k; configuration = c; q = q; says = s }

-- a choice with so many unsettled, unmatched and readings
abbrev so : Chosen → ℕ → ℕ → ℕ → Said
so x unsettled unmatched readings = made (reach x (record { unsettled = unsettled; unmatched = unmatched; readings = readings }))

-- code, row, column, centre, unsettled, unmatched and readings
abbrev tile : ℕ → ℕ → ℕ → Bool → ℕ → ℕ → ℕ → Said
tile code row column centre unsettled unmatched readings = so (tiling code row column centre) unsettled unmatched readings

abbrev tiled : ℕ → ℕ → Cube → ℕ → ℕ → ℕ → Bool → ℕ → ℕ → ℕ → Test
tiled k c q code row column centre unsettled unmatched readings = test (pos k) (pos c) q (tile code row column centre unsettled unmatched readings)

-- ---- refusals: all ones, but for the value b at corner k
abbrev with : ℕ → ℕ → Cube
with b k =
    let at : ℕ → ℕ = λ i. cond (eqb i k) b 0x3f800000 in
    cube (at 0) (at 1) (at 2) (at 3) (at 4) (at 5) (at 6) (at 7)

abbrev ones : Cube
ones = with 0x3f800000 0

abbrev spoilt : Cube
spoilt = with 0x7fc00000 7

refusals : List Test
refusals =
    -- case below 0 or above 14; and before 2 and 3
    test (pos 15) (pos 0) ones (refused 1)
    ∷ test (negsuc 0) (pos 0) ones (refused 1)
    ∷ test (negsuc 127) (pos 0) ones (refused 1)
    ∷ test (pos 127) (pos 0) ones (refused 1)
    ∷ test (negsuc 0) (negsuc 0) ones (refused 1)
    ∷ test (pos 15) (pos 99) spoilt (refused 1)
    -- configuration not one of the case's; and before 3
    ∷ test (pos 4) (pos 8) ones (refused 2)
    ∷ test (pos 0) (pos 0) ones (refused 2)
    ∷ test (pos 0) (negsuc 1) ones (refused 2)
    ∷ test (pos 3) (negsuc 0) ones (refused 2)
    ∷ test (pos 13) (pos 2) ones (refused 2)
    ∷ test (pos 14) (pos 12) ones (refused 2)
    ∷ test (pos 1) (negsuc 127) ones (refused 2)
    ∷ test (pos 4) (pos 8) spoilt (refused 2)
    -- a corner NaN or infinite
    ∷ test (pos 4) (pos 7) spoilt (refused 3)
    ∷ test (pos 0) (negsuc 0) spoilt (refused 3)
    ∷ test (pos 1) (pos 0) (with 0xff800001 3) (refused 3)
    -- and no refusal: case 0, and the last finite values
    ∷ test (pos 0) (negsuc 0) ones (so empty 0 0 0)
    ∷ tiled 14 11 (cube 0x7f7fffff 0xff7fffff 1 0x80000001 0 0x80000000 0x007fffff 0x00800000) 38 11 0 false 0 0 0
    ∷ []

refusals_hold : map (λ t. answer_of t.case t.configuration t.q) refusals ≡ map (λ t. t.says) refusals
unfolding refusals answer_of refusal_of choice_of run plan_of plans configurations has_centre corners all_finite of_bits
refusals_hold = refl

-- a NaN and each infinity, at each corner
corner_numbers : List ℕ
corner_numbers = 0 ∷ 1 ∷ 2 ∷ 3 ∷ 4 ∷ 5 ∷ 6 ∷ 7 ∷ []

not_finite : List ℕ
not_finite = 0x7fc00000 ∷ 0x7f800000 ∷ 0xff800000 ∷ []

all_refused : map (λ b. map (λ k. answer_of (pos 1) (pos 0) (with b k)) corner_numbers) not_finite ≡ map (λ b. map (λ k. refused 3) corner_numbers) not_finite
unfolding corner_numbers not_finite answer_of refusal_of configurations corners all_finite of_bits
all_refused = refl

-- ---- choices, as the Rust makes them
choices : List Test
choices =
    -- document 01's third sample line
    test (pos 13) (pos 0) (cube 0x3f800000 0x40000000 0x3f800000 0x40000000 0x3f800000 0x40800000 0x3f800000 0x40800000) (so (no_tiling 0 5) 0 0 6)
    -- docs/DIFFERENCES.md, F8
    ∷ tiled 13 0 (cube 0x40a00000 0xc0400000 0x40000000 0xc0400000 0xc0400000 0x40000000 0xbf800000 0x3f800000) 37 1 0 false 0 0 7
    -- no tiling of the other configuration
    ∷ test (pos 13) (pos 1) (cube 0x40000000 0x3f800000 0x40000000 0x3f800000 0x3f800000 0xc0000000 0xbf800000 0xbf800000) (so (no_tiling 1 21) 0 0 6)
    -- tilings 1 to 38
    ∷ tiled 1 6 (cube 0xc0000000 0xc0000000 0xc0000000 0xc0000000 0x3f800000 0xc0000000 0xc0000000 0xc0000000) 1 6 0 false 0 0 0
    ∷ tiled 2 6 (cube 0xc0000000 0xc0000000 0xc0000000 0xc0000000 0xc0000000 0xc0000000 0xc0000000 0xc0000000) 2 6 0 false 0 0 0
    ∷ tiled 3 6 (cube 0xc0000000 0x3f800000 0xc0000000 0xc0000000 0xc0000000 0xc0000000 0xc0000000 0xc0000000) 3 6 0 false 0 0 1
    ∷ tiled 3 11 (cube 0xc0000000 0xc0000000 0xc0000000 0xbf800000 0xc0000000 0x40000000 0xc0000000 0x40000000) 4 11 0 false 0 0 1
    ∷ tiled 4 7 (cube 0xc0000000 0x40400000 0x40000000 0x40400000 0x40000000 0x40000000 0xbf800000 0x40000000) 5 7 0 false 0 0 3
    ∷ tiled 4 0 (cube 0x41100000 0xc0a00000 0x40000000 0x40000000 0xc0a00000 0xc0800000 0x41100000 0) 6 0 0 false 0 0 3
    ∷ tiled 5 20 (cube 0xc0000000 0xc0000000 0xc0000000 0xc0000000 0xc0000000 0x40000000 0xc0000000 0xc0000000) 7 20 0 false 0 0 0
    ∷ tiled 6 13 (cube 0xc0000000 0x40000000 0xc0000000 0xc0000000 0xc0000000 0xc0000000 0xc0000000 0xc0000000) 8 13 0 false 0 1 2
    ∷ tiled 6 45 (cube 0x40000000 0x40000000 0x40000000 0x40000000 0x40000000 0x40000000 0x40000000 0x40000000) 9 45 0 false 1 1 2
    ∷ tiled 6 5 (cube 0xc0000000 0xc0000000 0xc0000000 0xc0000000 0xc0000000 0xc0000000 0xc0000000 0xc0000000) 10 5 0 false 0 0 1
    ∷ tiled 7 12 (cube 0xc0000000 0xc0000000 0xc0000000 0xc0000000 0xc0000000 0xc0000000 0xbf800000 0xc0000000) 11 12 0 false 0 0 3
    ∷ tiled 7 13 (cube 0xc0000000 0xc0000000 0xc0000000 0xc0000000 0xbf800000 0xc0000000 0xc0000000 0xc0000000) 12 13 1 false 0 0 3
    ∷ tiled 7 14 (cube 0x40000000 0x40000000 0x3f800000 0x40000000 0x40000000 0x40000000 0x40000000 0x40000000) 13 14 1 true 0 0 3
    ∷ tiled 7 1 (cube 0x40000000 0xbf800000 0x40000000 0x40000000 0x40000000 0x40000000 0x40000000 0x40000000) 14 1 0 false 0 3 6
    ∷ tiled 7 6 (cube 0xc0000000 0xc0400000 0x40400000 0xbf800000 0xbf800000 0x40000000 0xc0000000 0x40000000) 15 6 0 false 0 0 6
    ∷ tiled 8 0 (cube 0xc0000000 0xc0000000 0xc0000000 0xc0000000 0xc0000000 0xc0000000 0xc0000000 0xc0000000) 16 0 0 false 0 0 0
    ∷ tiled 9 4 (cube 0xc0000000 0xc0000000 0xc0000000 0xc0000000 0xc0000000 0xbf800000 0xc0000000 0xc0000000) 17 4 0 false 0 0 0
    ∷ tiled 10 2 (cube 0x3f800000 0xc0000000 0xc0000000 0x3f800000 0xc0400000 0x40000000 0x40000000 0xc0000000) 18 2 0 false 0 0 3
    ∷ tiled 10 3 (cube 0xc0000000 0x3f800000 0x40400000 0xc0000000 0x40400000 0xbf800000 0xbf800000 0x40000000) 19 3 0 false 0 0 3
    ∷ tiled 10 2 (cube 0xc0000000 0xc0000000 0xc0000000 0xc0000000 0xc0000000 0xc0000000 0xc0000000 0xc0000000) 20 3 0 false 1 0 3
    ∷ tiled 10 5 (cube 0xc0000000 0xc0000000 0xc0000000 0x40000000 0xc0000000 0xc0000000 0xc0000000 0xc0000000) 21 5 0 true 0 0 2
    ∷ tiled 10 3 (cube 0x40000000 0x40000000 0x40000000 0x40000000 0x40000000 0 0x40000000 0x40000000) 22 3 0 true 0 0 2
    ∷ tiled 11 1 (cube 0xc0000000 0xc0000000 0xc0000000 0xc0000000 0xc0000000 0xc0000000 0xc0000000 0xc0000000) 23 1 0 false 0 0 0
    ∷ tiled 12 2 (cube 0x40000000 0x40000000 0xc0000000 0xc0000000 0x40000000 0xc0400000 0x3f800000 0xbf800000) 24 2 0 false 0 0 4
    ∷ tiled 12 14 (cube 0xc0000000 0xbf800000 0xc0000000 0xc0000000 0xc0000000 0xc0000000 0xc0000000 0xc0000000) 25 14 0 false 0 0 4
    ∷ tiled 12 9 (cube 0xc0000000 0xc0000000 0xc0000000 0xc0000000 0xc0000000 0xc0000000 0xc0000000 0xc0000000) 26 14 0 false 2 0 4
    ∷ tiled 12 6 (cube 0x40000000 0xc0400000 0x40400000 0xc0000000 0x40000000 0xc0000000 0xc0000000 0x3f800000) 27 6 0 true 0 0 2
    ∷ tiled 12 21 (cube 0xc0400000 0xbf800000 0x40000000 0x40000000 0xc0000000 0x3f800000 0xc0000000 0x40000000) 28 21 0 true 0 0 2
    ∷ tiled 13 0 (cube 0x40e00000 0xc1400000 0x3f800000 0xc1400000 0xc1400000 0x40400000 0xc1100000 0x3f800000) 29 0 0 false 0 0 6
    ∷ tiled 13 1 (cube 0xc0000000 0x40400000 0xbf800000 0x3f800000 0x40000000 0xc0000000 0x3f800000 0xbf800000) 30 1 0 false 0 0 6
    ∷ tiled 13 1 (cube 0xc0000000 0x40000000 0xc0000000 0x40000000 0x3f800000 0xc0000000 0x3f800000 0xc0400000) 31 1 4 false 0 0 6
    ∷ tiled 13 0 (cube 0xc0000000 0xc0000000 0xc0000000 0xc0000000 0xbf800000 0xc0000000 0xc0000000 0xc0000000) 32 0 0 false 0 0 6
    ∷ tiled 13 0 (cube 0x3f800000 0xc0000000 0x40400000 0xc0000000 0xc0400000 0x3f800000 0xbf800000 0x40000000) 33 0 4 true 0 0 6
    ∷ tiled 13 0 (cube 0xc0000000 0xc0000000 0x40000000 0xc0000000 0xc0000000 0xc0000000 0xc0000000 0xc0000000) 34 0 4 true 0 0 6
    ∷ tiled 13 0 (cube 0x40000000 0xbf800000 0x40000000 0xc0000000 0xc0400000 0x3f800000 0xc0000000 0x40000000) 35 0 2 true 0 0 6
    ∷ tiled 13 0 (cube 0x3f800000 0xc0400000 0x40400000 0xc0400000 0xc0000000 0x40000000 0xc0000000 0x40000000) 36 0 2 false 0 0 7
    ∷ tiled 13 0 (cube 0x3f800000 0xc1100000 0x41100000 0xc0e00000 0xc1400000 0x41200000 0xc0e00000 0x41100000) 37 1 2 false 0 0 7
    ∷ tiled 14 0 (cube 0xc0000000 0x40000000 0x40000000 0x40000000 0x40000000 0x40000000 0x40000000 0x40000000) 38 0 0 false 0 0 0
    -- unsettled by products of zero
    ∷ tiled 4 3 (cube 0x40000000 0 0x40000000 0x40000000 0x3f800000 0x80000000 0x3f800000 0) 5 3 0 false 2 0 3
    ∷ tiled 4 7 (cube 0x80000000 0xbf800000 0xc0000000 0x3f800000 0x40000000 0xc0000000 0xc0000000 0x40000000) 6 7 0 false 3 3 3
    ∷ tiled 6 16 (cube 0x80000000 0 0xc0000000 0x40000000 0xbf800000 0x3f800000 0x3f800000 0xc0000000) 9 16 0 false 1 0 2
    ∷ tiled 7 7 (cube 0xbf800001 0xb4000000 0xbf800000 0x3f800000 0x34000001 0xbf800000 0x3f7fffff 0xb3ffffff) 14 7 0 false 2 0 6
    ∷ tiled 7 6 (cube 0xbf800000 0xbf800000 0x3f800000 0xc0400000 0xc0000000 0x40000000 0xbf800000 0x40400000) 15 6 0 false 3 0 6
    ∷ tiled 10 0 (cube 0x3f800000 0xbf800000 0 0x80000000 0x80000000 0 0x3f800000 0xbf800000) 20 5 0 false 1 0 3
    ∷ tiled 12 17 (cube 0xdea23992 0x5ea39ea3 0xdeb69bb8 0x5cc355d0 0xbf0eef7a 0x3db25df0 0x3eac2bb6 0xbf514953) 24 17 0 false 1 0 4
    ∷ tiled 12 14 (cube 0xc0000000 0 0xc0000000 0 0x40000000 0xbf800000 0x40000000 0x80000000) 26 9 0 false 2 2 4
    -- by blank readings: one, two, and beside a product of zero
    ∷ tiled 4 3 (cube 0x40000000 0x40000000 0x40400000 0x40400000 0x40400000 0x3f800000 0xbf800000 0x40000000) 5 3 0 false 1 0 3
    ∷ tiled 7 3 (cube 0x8883425f 0x7f73f798 0x98397f91 0x72e4cf9d 0x1f5cb5da 0x8fbd0a67 0x9449c0b6 0x942dedad) 14 3 0 false 1 0 6
    ∷ tiled 12 2 (cube 0 0 0xbf800000 0xbf800000 0xbf800000 0xbf800000 0 0xbf800000) 25 2 0 false 1 0 4
    ∷ tiled 4 5 (cube 0 0x7f7fffff 0xbf800000 0x5f000000 0xdf000000 0x5f800000 0x5f800000 0) 5 5 0 false 2 0 3
    ∷ tiled 12 14 (cube 0xc0000000 0xc0000000 0 0xc0000000 0xc0000000 0xc0000000 0x40000000 0) 26 9 0 false 2 0 4
    ∷ tiled 7 3 (cube 0xbf800000 0x80000000 0 0x3f800000 0 0x3f800000 0xbf800000 0) 15 3 0 false 3 0 6
    -- no pick has a match, and each reading is settled; edge 0 by a match
    ∷ tiled 4 0 (cube 0xbf800000 0xc0000000 0x3f800000 0xc0000000 0xc0000000 0x3f800000 0xbf800000 0xbf800000) 6 0 0 false 0 3 3
    ∷ tiled 10 1 (cube 0xbf800000 0x40000000 0x3f800000 0x3f800000 0xbf800000 0x3f800000 0x40000000 0xbf800000) 19 1 0 false 0 1 3
    ∷ tiled 4 0 (cube 0xbf800000 0x3f800000 0xbf800000 0xbf800000 0xbf800000 0xbf800000 0xbf800000 0x3f800000) 5 0 0 false 0 0 3
    ∷ []

choices_hold : map (λ t. answer_of t.case t.configuration t.q) choices ≡ map (λ t. t.says) choices
unfolding choices answer_of refusal_of choice_of run settled ask_in_turn plan_of plans plan3 plan4 plan6 part7 plan7 two_faces plan10 plan12 parts13 last_from tile13 part13 plan13 TEST_3 TEST_4 TEST_6 TEST_7 TEST_10 TEST_12 TEST_13 SUB_CONFIG_13 configurations has_centre face_of face_by rule face_corner face_corners inside_of inside_by joined look_at seen_as pick_by pick_with last_match any_match diagonals edge_by read_by cross_by move_of moves moves_of case13_of case13_by answer_at both_within root_of root_units whole_root root_within corner_of value_at corners all_finite of_bits neg add sub mul div lt eq le is_nan of_int
choices_hold = refl

-- ---- ranges
-- each of the codes 1 to 38 is a tiling of one case, in order
codes_hold : foldr ◌++◌ [] tilings_of
    ≡ 1 ∷ 2 ∷ 3 ∷ 4 ∷ 5 ∷ 6 ∷ 7 ∷ 8 ∷ 9 ∷ 10 ∷ 11 ∷ 12 ∷ 13 ∷ 14 ∷ 15 ∷ 16 ∷ 17 ∷ 18 ∷ 19 ∷ 20 ∷ 21 ∷ 22 ∷ 23 ∷ 24 ∷ 25 ∷ 26 ∷ 27 ∷ 28 ∷ 29 ∷ 30 ∷ 31 ∷ 32 ∷ 33 ∷ 34 ∷ 35 ∷ 36 ∷ 37 ∷ 38 ∷ []
unfolding tilings_of
codes_hold = refl

-- each part of a choice's ranges, just past its bound
record Past : Type 0 where
  case : ℕ
  says : Said

abbrev past : ℕ → Said → Past
past k s = record { case = k; says = s }

pasts : List Past
pasts =
    past 4 (tile 4 0 0 false 0 0 3)
    ∷ past 4 (tile 7 0 0 false 0 0 3)
    ∷ past 4 (tile 6 8 0 false 0 0 3)
    ∷ past 4 (tile 6 0 1 false 0 0 3)
    ∷ past 7 (tile 12 0 3 false 0 0 3)
    ∷ past 13 (tile 31 0 6 false 0 0 6)
    ∷ past 13 (tile 33 0 12 true 0 0 6)
    ∷ past 13 (tile 35 0 4 true 0 0 6)
    ∷ past 4 (tile 6 0 0 true 0 0 3)
    ∷ past 7 (tile 13 0 0 false 0 0 3)
    ∷ past 0 (tile 38 0 0 false 0 0 0)
    ∷ past 1 (so empty 0 0 0)
    ∷ past 0 (so empty 1 0 0)
    ∷ past 0 (so empty 0 1 0)
    ∷ past 0 (so empty 0 0 1)
    ∷ past 12 (so (no_tiling 0 5) 0 0 6)
    ∷ past 13 (so (no_tiling 2 5) 0 0 6)
    ∷ past 13 (so (no_tiling 0 5) 1 0 6)
    ∷ past 13 (so (no_tiling 0 5) 0 1 6)
    ∷ past 13 (so (no_tiling 0 5) 0 0 5)
    ∷ past 13 (so (no_tiling 0 5) 0 0 7)
    -- SUB_CONFIG_13 holds 3, 45 and nothing
    ∷ past 13 (so (no_tiling 0 4) 0 0 6)
    ∷ past 13 (so (no_tiling 1 63) 0 0 6)
    ∷ past 13 (so (no_tiling 0 64) 0 0 6)
    ∷ past 1 (refused 0)
    ∷ past 1 (refused 4)
    ∷ past 1 (refused 8)
    ∷ past 1 (refused 9)
    ∷ past 1 (refused 10)
    ∷ []

pasts_hold : map (λ p. said_in_ranges p.case p.says) pasts ≡ map (λ p. false) pasts
unfolding pasts said_in_ranges in_ranges placed figures holds_minus1 SUB_CONFIG_13 configurations tilings_of columns_of has_centre
pasts_hold = refl

-- for each case a tiling of it, how many edge readings a choice makes at most, so that so many are unsettled or unmatched and no more, and how many readings
-- it makes in all, by document 02, Change 7, and the Rust's calls
record Read : Type 0 where
  case : ℕ
  code : ℕ
  edges : ℕ
  readings : List ℕ

abbrev reads : ℕ → ℕ → ℕ → List ℕ → Read
reads k code n ns = record { case = k; code = code; edges = n; readings = ns }

figures_of_lem : List Read
figures_of_lem =
    reads 1 1 0 (0 ∷ [])
    ∷ reads 2 2 0 (0 ∷ [])
    ∷ reads 3 3 0 (1 ∷ [])
    ∷ reads 4 6 3 (3 ∷ [])
    ∷ reads 5 7 0 (0 ∷ [])
    ∷ reads 6 8 1 (1 ∷ 2 ∷ [])
    ∷ reads 7 15 3 (3 ∷ 6 ∷ [])
    ∷ reads 8 16 0 (0 ∷ [])
    ∷ reads 9 17 0 (0 ∷ [])
    ∷ reads 10 20 1 (2 ∷ 3 ∷ [])
    ∷ reads 11 23 0 (0 ∷ [])
    ∷ reads 12 26 2 (2 ∷ 4 ∷ [])
    ∷ reads 13 29 0 (6 ∷ 7 ∷ [])
    ∷ reads 14 38 0 (0 ∷ [])
    ∷ []

-- of 0 to 9 readings those that the ranges allow, with so many unsettled and unmatched
abbrev allowed : Read → ℕ → ℕ → List ℕ
allowed t unsettled unmatched =
    foldr (λ n ns. cond (said_in_ranges t.case (tile t.code 0 0 false unsettled unmatched n)) (n ∷ ns) ns) [] (0 ∷ 1 ∷ 2 ∷ 3 ∷ 4 ∷ 5 ∷ 6 ∷ 7 ∷ 8 ∷ 9 ∷ [])

figures_hold : map (λ t. allowed t t.edges t.edges) figures_of_lem ≡ map (λ t. t.readings) figures_of_lem
unfolding figures_of_lem said_in_ranges in_ranges placed figures configurations tilings_of columns_of has_centre
figures_hold = refl

more_unsettled : map (λ t. allowed t (suc t.edges) 0) figures_of_lem ≡ map (λ t. []) figures_of_lem
unfolding figures_of_lem said_in_ranges in_ranges placed figures configurations tilings_of columns_of has_centre
more_unsettled = refl

more_unmatched : map (λ t. allowed t 0 (suc t.edges)) figures_of_lem ≡ map (λ t. []) figures_of_lem
unfolding figures_of_lem said_in_ranges in_ranges placed figures configurations tilings_of columns_of has_centre
more_unmatched = refl

-- ---- inner numbers: questions that no plan of a case may hand on
record Wrong : Type 0 where
  case : ℕ
  plan : Plan

-- asked first, or after a no, or after a yes
abbrev first : ℕ → Plan.Question → Wrong
first k w = record { case = k; plan = ask w Plan.nothing Plan.nothing }

abbrev after_no : ℕ → Plan.Question → Wrong
after_no k w = record { case = k; plan = ask (face (pos 1)) Plan.nothing (ask w Plan.nothing Plan.nothing) }

abbrev after_yes : ℕ → Plan.Question → Wrong
after_yes k w = record { case = k; plan = ask (face (pos 1)) (ask w Plan.nothing Plan.nothing) Plan.nothing }

wrongs : List Wrong
wrongs =
    -- a face 0, 7 and -7
    first 3 (face (pos 0))
    ∷ after_no 10 (face (pos 7))
    ∷ after_yes 10 (face (negsuc 6))
    -- the interior test for an ambiguous face 0 and 7
    ∷ first 4 (inside (0 ∷ 2 ∷ 5 ∷ []) (pos 7))
    ∷ after_no 12 (inside (1 ∷ 7 ∷ []) (pos 7))
    ∷ after_yes 6 (inside (0 ∷ []) (pos 7))
    -- and for cases 3, 13 and 15, the case-13 test for case 12
    ∷ first 3 (inside (1 ∷ []) (pos 7))
    ∷ after_no 13 (inside (1 ∷ []) (pos 7))
    ∷ after_yes 15 (inside (1 ∷ []) (pos 7))
    ∷ first 12 inside13
    ∷ []

wrongs_hold : map (λ w. hands_on w.case w.plan) wrongs ≡ map (λ w. false) wrongs
unfolding wrongs hands_on
wrongs_hold = refl

-- numbers of SUB_CONFIG_13: -1 and the last column of each table; -2 and one past the last table
offsets_hold : map is_offset (negsuc 0 ∷ pos 0 ∷ pos 6 ∷ pos 18 ∷ pos 22 ∷ pos 26 ∷ pos 38 ∷ pos 44 ∷ pos 45 ∷ negsuc 1 ∷ pos 46 ∷ [])
    ≡ true ∷ true ∷ true ∷ true ∷ true ∷ true ∷ true ∷ true ∷ true ∷ false ∷ false ∷ []
unfolding is_offset parts13 last_from columns_of
offsets_hold = refl
