-- The tables TEST_3, 4, 6 and 7 as the source has them, row by row. Definitions only.
use Rattle.std.specs.Prelude.{List, [], ◌∷◌, ℤ, pos}
use Rattle.tilings.specs.Tables.{minus}

unfoldable pub TEST_3 : List ℤ
TEST_3 =
    pos 5 ∷ pos 1 ∷ pos 4 ∷ pos 5 ∷ pos 1 ∷ pos 2 ∷ pos 2 ∷ pos 3
    ∷ pos 4 ∷ pos 3 ∷ pos 6 ∷ pos 6 ∷ minus 6 ∷ minus 6 ∷ minus 3 ∷ minus 4
    ∷ minus 3 ∷ minus 2 ∷ minus 2 ∷ minus 1 ∷ minus 5 ∷ minus 4 ∷ minus 1 ∷ minus 5
    ∷ []

unfoldable pub TEST_4 : List ℤ
TEST_4 =
    pos 7 ∷ pos 7 ∷ pos 7 ∷ pos 7 ∷ minus 7 ∷ minus 7 ∷ minus 7 ∷ minus 7
    ∷ []

unfoldable pub TEST_6 : List (List ℤ)
TEST_6 =
    (pos 2 ∷ pos 7 ∷ pos 10 ∷ [])
    ∷ (pos 4 ∷ pos 7 ∷ pos 11 ∷ [])
    ∷ (pos 5 ∷ pos 7 ∷ pos 1 ∷ [])
    ∷ (pos 5 ∷ pos 7 ∷ pos 3 ∷ [])
    ∷ (pos 1 ∷ pos 7 ∷ pos 9 ∷ [])
    ∷ (pos 3 ∷ pos 7 ∷ pos 10 ∷ [])
    ∷ (pos 6 ∷ pos 7 ∷ pos 5 ∷ [])
    ∷ (pos 1 ∷ pos 7 ∷ pos 8 ∷ [])
    ∷ (pos 4 ∷ pos 7 ∷ pos 8 ∷ [])
    ∷ (pos 1 ∷ pos 7 ∷ pos 8 ∷ [])
    ∷ (pos 3 ∷ pos 7 ∷ pos 11 ∷ [])
    ∷ (pos 5 ∷ pos 7 ∷ pos 2 ∷ [])
    ∷ (pos 5 ∷ pos 7 ∷ pos 0 ∷ [])
    ∷ (pos 1 ∷ pos 7 ∷ pos 9 ∷ [])
    ∷ (pos 6 ∷ pos 7 ∷ pos 6 ∷ [])
    ∷ (pos 2 ∷ pos 7 ∷ pos 9 ∷ [])
    ∷ (pos 4 ∷ pos 7 ∷ pos 8 ∷ [])
    ∷ (pos 2 ∷ pos 7 ∷ pos 9 ∷ [])
    ∷ (pos 2 ∷ pos 7 ∷ pos 10 ∷ [])
    ∷ (pos 6 ∷ pos 7 ∷ pos 7 ∷ [])
    ∷ (pos 3 ∷ pos 7 ∷ pos 10 ∷ [])
    ∷ (pos 4 ∷ pos 7 ∷ pos 11 ∷ [])
    ∷ (pos 3 ∷ pos 7 ∷ pos 11 ∷ [])
    ∷ (pos 6 ∷ pos 7 ∷ pos 4 ∷ [])
    ∷ (minus 6 ∷ minus 7 ∷ pos 4 ∷ [])
    ∷ (minus 3 ∷ minus 7 ∷ pos 11 ∷ [])
    ∷ (minus 4 ∷ minus 7 ∷ pos 11 ∷ [])
    ∷ (minus 3 ∷ minus 7 ∷ pos 10 ∷ [])
    ∷ (minus 6 ∷ minus 7 ∷ pos 7 ∷ [])
    ∷ (minus 2 ∷ minus 7 ∷ pos 10 ∷ [])
    ∷ (minus 2 ∷ minus 7 ∷ pos 9 ∷ [])
    ∷ (minus 4 ∷ minus 7 ∷ pos 8 ∷ [])
    ∷ (minus 2 ∷ minus 7 ∷ pos 9 ∷ [])
    ∷ (minus 6 ∷ minus 7 ∷ pos 6 ∷ [])
    ∷ (minus 1 ∷ minus 7 ∷ pos 9 ∷ [])
    ∷ (minus 5 ∷ minus 7 ∷ pos 0 ∷ [])
    ∷ (minus 5 ∷ minus 7 ∷ pos 2 ∷ [])
    ∷ (minus 3 ∷ minus 7 ∷ pos 11 ∷ [])
    ∷ (minus 1 ∷ minus 7 ∷ pos 8 ∷ [])
    ∷ (minus 4 ∷ minus 7 ∷ pos 8 ∷ [])
    ∷ (minus 1 ∷ minus 7 ∷ pos 8 ∷ [])
    ∷ (minus 6 ∷ minus 7 ∷ pos 5 ∷ [])
    ∷ (minus 3 ∷ minus 7 ∷ pos 10 ∷ [])
    ∷ (minus 1 ∷ minus 7 ∷ pos 9 ∷ [])
    ∷ (minus 5 ∷ minus 7 ∷ pos 3 ∷ [])
    ∷ (minus 5 ∷ minus 7 ∷ pos 1 ∷ [])
    ∷ (minus 4 ∷ minus 7 ∷ pos 11 ∷ [])
    ∷ (minus 2 ∷ minus 7 ∷ pos 10 ∷ [])
    ∷ []

unfoldable pub TEST_7 : List (List ℤ)
TEST_7 =
    (pos 1 ∷ pos 2 ∷ pos 5 ∷ pos 7 ∷ pos 1 ∷ [])
    ∷ (pos 3 ∷ pos 4 ∷ pos 5 ∷ pos 7 ∷ pos 3 ∷ [])
    ∷ (pos 4 ∷ pos 1 ∷ pos 6 ∷ pos 7 ∷ pos 4 ∷ [])
    ∷ (pos 4 ∷ pos 1 ∷ pos 5 ∷ pos 7 ∷ pos 0 ∷ [])
    ∷ (pos 2 ∷ pos 3 ∷ pos 5 ∷ pos 7 ∷ pos 2 ∷ [])
    ∷ (pos 1 ∷ pos 2 ∷ pos 6 ∷ pos 7 ∷ pos 5 ∷ [])
    ∷ (pos 2 ∷ pos 3 ∷ pos 6 ∷ pos 7 ∷ pos 6 ∷ [])
    ∷ (pos 3 ∷ pos 4 ∷ pos 6 ∷ pos 7 ∷ pos 7 ∷ [])
    ∷ (minus 3 ∷ minus 4 ∷ minus 6 ∷ minus 7 ∷ pos 7 ∷ [])
    ∷ (minus 2 ∷ minus 3 ∷ minus 6 ∷ minus 7 ∷ pos 6 ∷ [])
    ∷ (minus 1 ∷ minus 2 ∷ minus 6 ∷ minus 7 ∷ pos 5 ∷ [])
    ∷ (minus 2 ∷ minus 3 ∷ minus 5 ∷ minus 7 ∷ pos 2 ∷ [])
    ∷ (minus 4 ∷ minus 1 ∷ minus 5 ∷ minus 7 ∷ pos 0 ∷ [])
    ∷ (minus 4 ∷ minus 1 ∷ minus 6 ∷ minus 7 ∷ pos 4 ∷ [])
    ∷ (minus 3 ∷ minus 4 ∷ minus 5 ∷ minus 7 ∷ pos 3 ∷ [])
    ∷ (minus 1 ∷ minus 2 ∷ minus 5 ∷ minus 7 ∷ pos 1 ∷ [])
    ∷ []
