-- Document 01, 'Choice': the plan of each case for a configuration c, line by line as handle_cube has it. Definitions only.
use Rattle.std.specs.Prelude.{ℕ, List, [], ◌∷◌, ℤ, pos, neg_ℤ, nat_abs, get_or}
use Rattle.tilings.specs.Tables.{entry}
use Rattle.tilings.specs.Tilings.{TILING_1, TILING_2, TILING_3_1, TILING_3_2, TILING_4_1, TILING_4_2, TILING_5, TILING_6_1_1, TILING_6_1_2, TILING_6_2, TILING_7_1, TILING_7_2, TILING_7_3, TILING_7_4_1, TILING_7_4_2, TILING_8, TILING_9, TILING_11, TILING_14}
use Rattle.tilings.specs.Plan.{Plan, nothing, tile, ask, face, inside, ask_in_turn}
use Rattle.two_faces.specs.Plans.{plan10, plan12}
use Rattle.family_13.specs.Plans.{plan13}
use Rattle.families.specs.Tables.{TEST_3, TEST_4, TEST_6, TEST_7}

unfoldable pub plan3 : ℕ → Plan
plan3 c = ask (face (get_or TEST_3 c (pos 0))) (tile TILING_3_2 c 0) (tile TILING_3_1 c 0)

-- the interior test of cases 4 and 7 is made for faces 1, 2 and 5
abbrev pub faces125 : List ℕ
faces125 = 1 ∷ 2 ∷ 5 ∷ []

unfoldable pub plan4 : ℕ → Plan
plan4 c = ask (inside faces125 (get_or TEST_4 c (pos 0))) (tile TILING_4_1 c 0) (tile TILING_4_2 c 0)

unfoldable pub plan6 : ℕ → Plan
plan6 c =
    let first = entry TEST_6 c 0 in
    ask (face first) (tile TILING_6_2 c 0)
    (ask (inside (nat_abs first ∷ []) (entry TEST_6 c 1)) (tile TILING_6_1_1 c 0) (tile TILING_6_1_2 c 0))

-- by the sub-configuration; the interior test of case 7 takes -s
abbrev pub parts7 : ℕ → List Plan
parts7 c =
    tile TILING_7_1 c 0
    ∷ tile TILING_7_2 c 0
    ∷ tile TILING_7_2 c 1
    ∷ tile TILING_7_3 c 0
    ∷ tile TILING_7_2 c 2
    ∷ tile TILING_7_3 c 1
    ∷ tile TILING_7_3 c 2
    ∷ ask (inside faces125 (neg_ℤ (entry TEST_7 c 3))) (tile TILING_7_4_1 c 0) (tile TILING_7_4_2 c 0)
    ∷ []

unfoldable pub part7 : ℕ → ℕ → Plan
part7 c sub = get_or (parts7 c) sub nothing

-- the faces whose answers make the sub-configuration
abbrev pub faces7 : ℕ → List ℤ
faces7 c = entry TEST_7 c 0 ∷ entry TEST_7 c 1 ∷ entry TEST_7 c 2 ∷ []

unfoldable pub plan7 : ℕ → Plan
plan7 c = ask_in_turn (faces7 c) (part7 c)

-- the cases that ask nothing
abbrev plain : ℕ → ℕ → Plan
plain code c = tile code c 0

-- the others
abbrev pub asking : List ℕ
asking = 3 ∷ 4 ∷ 6 ∷ 7 ∷ 10 ∷ 12 ∷ 13 ∷ []

-- from case 0
unfoldable pub plans : List (ℕ → Plan)
plans =
    (λ c. nothing)
    ∷ plain TILING_1
    ∷ plain TILING_2
    ∷ plan3
    ∷ plan4
    ∷ plain TILING_5
    ∷ plan6
    ∷ plan7
    ∷ plain TILING_8
    ∷ plain TILING_9
    ∷ plan10
    ∷ plain TILING_11
    ∷ plan12
    ∷ plan13
    ∷ plain TILING_14
    ∷ []

unfoldable pub plan_of : ℕ → ℕ → Plan
plan_of case c = get_or plans case (λ c. nothing) c
