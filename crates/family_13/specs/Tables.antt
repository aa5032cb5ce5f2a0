-- The tables TEST_13 and SUB_CONFIG_13 as the source has them, row by row. Definitions only.
use Rattle.std.specs.Prelude.{List, [], ◌∷◌, ℤ, pos}
use Rattle.tilings.specs.Tables.{minus}

unfoldable pub TEST_13 : List (List ℤ)
TEST_13 =
    (pos 1 ∷ pos 2 ∷ pos 3 ∷ pos 4 ∷ pos 5 ∷ pos 6 ∷ pos 7 ∷ [])
    ∷ (pos 2 ∷ pos 3 ∷ pos 4 ∷ pos 1 ∷ pos 5 ∷ pos 6 ∷ pos 7 ∷ [])
    ∷ []

-- -1: no tiling
unfoldable pub SUB_CONFIG_13 : List ℤ
SUB_CONFIG_13 =
    pos 0 ∷ pos 1 ∷ pos 2 ∷ pos 7 ∷ pos 3 ∷ minus 1 ∷ pos 11 ∷ minus 1
    ∷ pos 4 ∷ pos 8 ∷ minus 1 ∷ minus 1 ∷ pos 14 ∷ minus 1 ∷ minus 1 ∷ minus 1
    ∷ pos 5 ∷ pos 9 ∷ pos 12 ∷ pos 23 ∷ pos 15 ∷ minus 1 ∷ pos 21 ∷ pos 38
    ∷ pos 17 ∷ pos 20 ∷ minus 1 ∷ pos 36 ∷ pos 26 ∷ pos 33 ∷ pos 30 ∷ pos 44
    ∷ pos 6 ∷ pos 10 ∷ pos 13 ∷ pos 19 ∷ pos 16 ∷ minus 1 ∷ pos 25 ∷ pos 37
    ∷ pos 18 ∷ pos 24 ∷ minus 1 ∷ pos 35 ∷ pos 22 ∷ pos 32 ∷ pos 29 ∷ pos 43
    ∷ minus 1 ∷ minus 1 ∷ minus 1 ∷ pos 34 ∷ minus 1 ∷ minus 1 ∷ pos 28 ∷ pos 42
    ∷ minus 1 ∷ pos 31 ∷ minus 1 ∷ pos 41 ∷ pos 27 ∷ pos 40 ∷ pos 39 ∷ pos 45
    ∷ []
