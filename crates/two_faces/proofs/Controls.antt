-- That the definitions say something, by computation: document 01's counts, the column s, that every tiling is reached, and for answers written down the
-- choice that handle_cube makes. Assumes nothing.
use mathlib.Core.Path.{◌≡◌, refl}
use mathlib.Core.Bool.{true, false, ◌&&◌}
use mathlib.Core.List.{List, [], ◌∷◌, map}
use lib.IntN.{pos}
use lib.Dec.{T}
use lib.ListN.{get_or, length}
use Rattle.tilings.specs.Tilings.{tilings_of, columns_of, has_centre}
use Rattle.tilings.specs.Plan.{settled, run}
use Rattle.tilings.proofs.Trials.{reaches_all, Test, test, chosen_in, tiled, centred, side_by}
use Rattle.two_faces.specs.Tables.{TEST_10, TEST_12}
use Rattle.two_faces.specs.Plans.{two_faces, plan10, plan12}

rows : length TEST_10 ∷ length TEST_12 ∷ [] ≡ 6 ∷ 24 ∷ []
unfolding TEST_10 TEST_12
rows = refl

-- the column s, by the sets of corners above 0 that the source's CASES has for the rows
side_10 : map (λ row. get_or row 2 (pos 0)) TEST_10 ≡ map side_by (195 ∷ 85 ∷ 105 ∷ 150 ∷ 170 ∷ 60 ∷ [])
unfolding TEST_10
side_10 = refl

side_12 : map (λ row. get_or row 2 (pos 0)) TEST_12
    ≡ map side_by
    (135 ∷ 75 ∷ 83 ∷ 163 ∷ 45 ∷ 53 ∷ 149 ∷ 101 ∷ 197 ∷ 89 ∷ 169 ∷ 225
    ∷ 30 ∷ 86 ∷ 166 ∷ 58 ∷ 154 ∷ 106 ∷ 202 ∷ 210 ∷ 92 ∷ 172 ∷ 180 ∷ 120
    ∷ [])
unfolding TEST_12
side_12 = refl

-- for configuration 0
all_reached : T (reaches_all (get_or tilings_of 10 []) (plan10 0) && reaches_all (get_or tilings_of 12 []) (plan12 0))
unfolding tilings_of columns_of two_faces plan10 plan12 TEST_10 TEST_12
all_reached = tt

tests : List Test
tests =
    -- with both faces true s = -7, and a no leads to row 5 - configuration
    test (plan10 1) (5 ∷ []) true (centred 21 1 0) 2
    ∷ test (plan10 1) (6 ∷ []) true (centred 22 1 0) 2
    ∷ test (plan10 1) (5 ∷ 6 ∷ []) false (tiled 19 1 0) 3
    ∷ test (plan10 1) (5 ∷ 6 ∷ []) true (tiled 20 4 0) 3
    ∷ test (plan10 1) [] true (tiled 18 1 0) 3
    ∷ test (plan10 1) [] false (tiled 20 1 0) 3
    -- the same, and row 23 - configuration
    ∷ test (plan12 3) (6 ∷ []) true (centred 27 3 0) 2
    ∷ test (plan12 3) (4 ∷ []) true (centred 28 3 0) 2
    ∷ test (plan12 3) (4 ∷ 6 ∷ []) false (tiled 25 3 0) 4
    ∷ test (plan12 3) (4 ∷ 6 ∷ []) true (tiled 26 20 0) 4
    ∷ test (plan12 3) [] true (tiled 24 3 0) 4
    ∷ test (plan12 3) [] false (tiled 26 3 0) 4
    ∷ []

tests_hold : map chosen_in tests ≡ map (λ t. t.makes) tests
unfolding tests run settled has_centre two_faces plan10 plan12 TEST_10 TEST_12
tests_hold = refl
