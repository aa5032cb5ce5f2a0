-- Document 01, 'Choice': the plans of cases 10 and 12 for a configuration c, line by line as handle_cube has them. Definitions only.
use Rattle.std.specs.Prelude.{ℕ, ◌-◌, List, [], ◌∷◌, ℤ, pos, neg_ℤ, nat_abs}
use Rattle.tilings.specs.Tables.{entry}
use Rattle.tilings.specs.Tilings.{TILING_10_1_1, TILING_10_1_1_, TILING_10_1_2, TILING_10_2, TILING_10_2_, TILING_12_1_1, TILING_12_1_1_, TILING_12_1_2, TILING_12_2, TILING_12_2_}
use Rattle.tilings.specs.Plan.{Plan, tile, ask, face, inside}
use Rattle.two_faces.specs.declared.Tilings.{Tilings}
use Rattle.two_faces.specs.Tables.{TEST_10, TEST_12}

-- cases 10 and 12 ask two faces. With both true the interior test takes -s, with both false s. A no after -s leads to row
-- 5 - configuration, and in case 12 to 23 - configuration
unfoldable pub two_faces : ℤ → ℤ → ℤ → List ℕ → Plan → Plan → Plan → Plan → Plan → Plan → Plan
two_faces first second s ns both_yes both-no first_alone second-alone none-yes none-no =
    ask (face first)
    (ask (face second) (ask (inside ns (neg_ℤ s)) both_yes both-no) first_alone)
    (ask (face second) second-alone (ask (inside ns s) none-yes none-no))

-- the plan by a case's tilings, with s 7; `other` is the row that a no after -s leads to
abbrev pub plan_by : ℤ → ℤ → List ℕ → Tilings → ℕ → ℕ → Plan
plan_by first second ns to row other =
    two_faces first second (pos 7) ns
    (tile to.both row 0)
    (tile to.unless_inside other 0)
    (tile to.first row 0)
    (tile to.second row 0)
    (tile to.none row 0)
    (tile to.unless_inside row 0)

unfoldable pub plan10 : ℕ → Plan
plan10 c =
    let first = entry TEST_10 c 0 in
    two_faces first (entry TEST_10 c 1) (entry TEST_10 c 2) (nat_abs first ∷ [])
    (tile TILING_10_1_1_ c 0)
    (tile TILING_10_1_2 (5 - c) 0)
    (tile TILING_10_2 c 0)
    (tile TILING_10_2_ c 0)
    (tile TILING_10_1_1 c 0)
    (tile TILING_10_1_2 c 0)

unfoldable pub plan12 : ℕ → Plan
plan12 c =
    let first = entry TEST_12 c 0 in
    let second = entry TEST_12 c 1 in
    two_faces first second (entry TEST_12 c 2) (nat_abs first ∷ nat_abs second ∷ [])
    (tile TILING_12_1_1_ c 0)
    (tile TILING_12_1_2 (23 - c) 0)
    (tile TILING_12_2 c 0)
    (tile TILING_12_2_ c 0)
    (tile TILING_12_1_1 c 0)
    (tile TILING_12_1_2 c 0)
