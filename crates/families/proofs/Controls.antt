-- That the definitions say something, by computation: document 01's counts, the column s, that every column of every tiling is reached, and for answers
-- written down the choice that handle_cube makes. Cases 10, 12 and 13 have theirs beside their plans. Assumes nothing.
use mathlib.Core.Path.{◌≡◌, refl}
use mathlib.Core.Bool.{Bool, true, false, ◌||◌}
use mathlib.Core.List.{List, [], ◌∷◌, map}
use Prim.Native.Nat.{ℕ}
use lib.IntN.{pos}
use lib.Dec.{T}
use lib.ListN.{get_or, length}
use Rattle.cube.proofs.Table.{all_under}
use Rattle.tilings.specs.Tilings.{tilings_of, is_one_of, columns_of, has_centre}
use Rattle.tilings.specs.Plan.{ask_in_turn, settled, run}
use Rattle.tilings.proofs.Trials.{reaches_all, Test, test, chosen_in, tiled, centred, side_by}
use Rattle.families.specs.Tables.{TEST_3, TEST_4, TEST_6, TEST_7}
use Rattle.families.specs.Plans.{plan3, plan4, plan6, part7, plan7, plans, plan_of}

rows : length TEST_3 ∷ length TEST_4 ∷ length TEST_6 ∷ length TEST_7 ∷ [] ≡ 24 ∷ 8 ∷ 48 ∷ 16 ∷ []
unfolding TEST_3 TEST_4 TEST_6 TEST_7
rows = refl

-- the column s, by the sets of corners above 0 that the source's CASES has for the rows
side_4 : TEST_4 ≡ map side_by (65 ∷ 130 ∷ 20 ∷ 40 ∷ 215 ∷ 235 ∷ 125 ∷ 190 ∷ [])
unfolding TEST_4
side_4 = refl

side_6 : map (λ row. get_or row 1 (pos 0)) TEST_6
    ≡ map side_by
    (67 ∷ 131 ∷ 21 ∷ 69 ∷ 41 ∷ 73 ∷ 81 ∷ 97 ∷ 193 ∷ 22 ∷ 134 ∷ 42
    ∷ 138 ∷ 146 ∷ 162 ∷ 194 ∷ 28 ∷ 44 ∷ 52 ∷ 84 ∷ 148 ∷ 56 ∷ 104 ∷ 168
    ∷ 87 ∷ 151 ∷ 199 ∷ 107 ∷ 171 ∷ 203 ∷ 211 ∷ 227 ∷ 61 ∷ 93 ∷ 109 ∷ 117
    ∷ 213 ∷ 121 ∷ 233 ∷ 62 ∷ 158 ∷ 174 ∷ 182 ∷ 214 ∷ 186 ∷ 234 ∷ 124 ∷ 188
    ∷ [])
unfolding TEST_6
side_6 = refl

side_7 : map (λ row. get_or row 3 (pos 0)) TEST_7
    ≡ map side_by
    (37 ∷ 133 ∷ 161 ∷ 26 ∷ 74 ∷ 82 ∷ 164 ∷ 88
    ∷ 167 ∷ 91 ∷ 173 ∷ 181 ∷ 229 ∷ 94 ∷ 122 ∷ 218
    ∷ [])
unfolding TEST_7
side_7 = refl

-- for configuration 0
abbrev reached : ℕ → Bool
reached case = is_one_of case (10 ∷ 12 ∷ 13 ∷ []) || reaches_all (get_or tilings_of case []) (plan_of case 0)

all_reached : T (all_under 15 reached)
unfolding tilings_of columns_of plan_of plans plan3 plan4 plan6 part7 plan7 ask_in_turn TEST_3 TEST_4 TEST_6 TEST_7
all_reached = tt

tests : List Test
tests =
    test (plan_of 3 0) (5 ∷ []) true (tiled 4 0 0) 1
    ∷ test (plan_of 3 0) [] true (tiled 3 0 0) 1
    ∷ test (plan_of 4 0) [] true (tiled 5 0 0) 3
    ∷ test (plan_of 4 0) [] false (tiled 6 0 0) 3
    ∷ test (plan_of 4 4) [] true (tiled 6 4 0) 3
    ∷ test (plan_of 6 0) (2 ∷ []) true (tiled 10 0 0) 1
    ∷ test (plan_of 6 0) [] true (tiled 8 0 0) 2
    ∷ test (plan_of 6 0) [] false (tiled 9 0 0) 2
    -- case 7 asks faces 1, 2 and 5, and then s = -7
    ∷ test (plan_of 7 0) [] true (tiled 11 0 0) 3
    ∷ test (plan_of 7 0) (1 ∷ []) true (tiled 12 0 0) 3
    ∷ test (plan_of 7 0) (2 ∷ []) true (tiled 12 0 1) 3
    ∷ test (plan_of 7 0) (5 ∷ []) true (tiled 12 0 2) 3
    ∷ test (plan_of 7 0) (1 ∷ 2 ∷ []) true (centred 13 0 0) 3
    ∷ test (plan_of 7 0) (1 ∷ 5 ∷ []) true (centred 13 0 1) 3
    ∷ test (plan_of 7 0) (2 ∷ 5 ∷ []) true (centred 13 0 2) 3
    ∷ test (plan_of 7 0) (1 ∷ 2 ∷ 5 ∷ []) false (tiled 14 0 0) 6
    ∷ test (plan_of 7 0) (1 ∷ 2 ∷ 5 ∷ []) true (tiled 15 0 0) 6
    ∷ []

tests_hold : map chosen_in tests ≡ map (λ t. t.makes) tests
unfolding tests run settled has_centre plan_of plans plan3 plan4 plan6 part7 plan7 ask_in_turn TEST_3 TEST_4 TEST_6 TEST_7
tests_hold = refl
