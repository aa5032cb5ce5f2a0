-- The tables TEST_10 and TEST_12 as the source has them, row by row. Definitions only.
use Rattle.std.specs.Prelude.{List, [], ◌∷◌, ℤ, pos}

unfoldable pub TEST_10 : List (List ℤ)
TEST_10 =
    (pos 2 ∷ pos 4 ∷ pos 7 ∷ [])
    ∷ (pos 5 ∷ pos 6 ∷ pos 7 ∷ [])
    ∷ (pos 1 ∷ pos 3 ∷ pos 7 ∷ [])
    ∷ (pos 1 ∷ pos 3 ∷ pos 7 ∷ [])
    ∷ (pos 5 ∷ pos 6 ∷ pos 7 ∷ [])
    ∷ (pos 2 ∷ pos 4 ∷ pos 7 ∷ [])
    ∷ []

unfoldable pub TEST_12 : List (List ℤ)
TEST_12 =
    (pos 4 ∷ pos 3 ∷ pos 7 ∷ pos 11 ∷ [])
    ∷ (pos 3 ∷ pos 2 ∷ pos 7 ∷ pos 10 ∷ [])
    ∷ (pos 2 ∷ pos 6 ∷ pos 7 ∷ pos 5 ∷ [])
    ∷ (pos 6 ∷ pos 4 ∷ pos 7 ∷ pos 7 ∷ [])
    ∷ (pos 2 ∷ pos 1 ∷ pos 7 ∷ pos 9 ∷ [])
    ∷ (pos 5 ∷ pos 2 ∷ pos 7 ∷ pos 1 ∷ [])
    ∷ (pos 5 ∷ pos 3 ∷ pos 7 ∷ pos 2 ∷ [])
    ∷ (pos 5 ∷ pos 1 ∷ pos 7 ∷ pos 0 ∷ [])
    ∷ (pos 5 ∷ pos 4 ∷ pos 7 ∷ pos 3 ∷ [])
    ∷ (pos 6 ∷ pos 3 ∷ pos 7 ∷ pos 6 ∷ [])
    ∷ (pos 1 ∷ pos 6 ∷ pos 7 ∷ pos 4 ∷ [])
    ∷ (pos 1 ∷ pos 4 ∷ pos 7 ∷ pos 8 ∷ [])
    ∷ (pos 4 ∷ pos 1 ∷ pos 7 ∷ pos 8 ∷ [])
    ∷ (pos 6 ∷ pos 1 ∷ pos 7 ∷ pos 4 ∷ [])
    ∷ (pos 3 ∷ pos 6 ∷ pos 7 ∷ pos 6 ∷ [])
    ∷ (pos 4 ∷ pos 5 ∷ pos 7 ∷ pos 3 ∷ [])
    ∷ (pos 1 ∷ pos 5 ∷ pos 7 ∷ pos 0 ∷ [])
    ∷ (pos 3 ∷ pos 5 ∷ pos 7 ∷ pos 2 ∷ [])
    ∷ (pos 2 ∷ pos 5 ∷ pos 7 ∷ pos 1 ∷ [])
    ∷ (pos 1 ∷ pos 2 ∷ pos 7 ∷ pos 9 ∷ [])
    ∷ (pos 4 ∷ pos 6 ∷ pos 7 ∷ pos 7 ∷ [])
    ∷ (pos 6 ∷ pos 2 ∷ pos 7 ∷ pos 5 ∷ [])
    ∷ (pos 2 ∷ pos 3 ∷ pos 7 ∷ pos 10 ∷ [])
    ∷ (pos 3 ∷ pos 4 ∷ pos 7 ∷ pos 11 ∷ [])
    ∷ []
