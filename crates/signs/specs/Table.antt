-- Document 02, 'Change 1': the table of the 256 sets, 512 numbers. Definitions only.
use Rattle.std.specs.Prelude.{ℕ, ◌+◌, ◌*◌, List, [], ◌∷◌, ℤ, pos, negsuc, get_or}
use Rattle.signs.specs.declared.Family.{Family}
use Rattle.signs.specs.Rule.{family}

-- case and configuration of each set, from set 0
unfoldable pub families : List ℤ
families =
    pos 0 ∷ negsuc 0 ∷ pos 1 ∷ pos 0 ∷ pos 1 ∷ pos 1 ∷ pos 2 ∷ pos 0 ∷ pos 1 ∷ pos 2 ∷ pos 3 ∷ pos 0 ∷ pos 2 ∷ pos 3 ∷ pos 5 ∷ pos 0
    ∷ pos 1 ∷ pos 3 ∷ pos 2 ∷ pos 1 ∷ pos 3 ∷ pos 3 ∷ pos 5 ∷ pos 1 ∷ pos 2 ∷ pos 5 ∷ pos 5 ∷ pos 4 ∷ pos 5 ∷ pos 9 ∷ pos 8 ∷ pos 0
    ∷ pos 1 ∷ pos 4 ∷ pos 2 ∷ pos 2 ∷ pos 3 ∷ pos 4 ∷ pos 5 ∷ pos 2 ∷ pos 4 ∷ pos 2 ∷ pos 6 ∷ pos 2 ∷ pos 6 ∷ pos 9 ∷ pos 11 ∷ pos 0
    ∷ pos 3 ∷ pos 8 ∷ pos 5 ∷ pos 5 ∷ pos 7 ∷ pos 3 ∷ pos 9 ∷ pos 1 ∷ pos 6 ∷ pos 16 ∷ pos 14 ∷ pos 3 ∷ pos 12 ∷ pos 12 ∷ pos 5 ∷ pos 24
    ∷ pos 1 ∷ pos 5 ∷ pos 3 ∷ pos 1 ∷ pos 2 ∷ pos 4 ∷ pos 5 ∷ pos 3 ∷ pos 3 ∷ pos 6 ∷ pos 7 ∷ pos 0 ∷ pos 5 ∷ pos 10 ∷ pos 9 ∷ pos 0
    ∷ pos 4 ∷ pos 3 ∷ pos 6 ∷ pos 4 ∷ pos 6 ∷ pos 11 ∷ pos 14 ∷ pos 1 ∷ pos 6 ∷ pos 17 ∷ pos 12 ∷ pos 4 ∷ pos 11 ∷ pos 6 ∷ pos 5 ∷ pos 25
    ∷ pos 2 ∷ pos 8 ∷ pos 5 ∷ pos 7 ∷ pos 5 ∷ pos 12 ∷ pos 8 ∷ pos 1 ∷ pos 6 ∷ pos 18 ∷ pos 12 ∷ pos 5 ∷ pos 14 ∷ pos 7 ∷ pos 5 ∷ pos 28
    ∷ pos 6 ∷ pos 21 ∷ pos 11 ∷ pos 4 ∷ pos 12 ∷ pos 15 ∷ pos 5 ∷ pos 30 ∷ pos 10 ∷ pos 5 ∷ pos 6 ∷ pos 32 ∷ pos 6 ∷ pos 39 ∷ pos 2 ∷ pos 12
    ∷ pos 1 ∷ pos 6 ∷ pos 4 ∷ pos 0 ∷ pos 3 ∷ pos 5 ∷ pos 6 ∷ pos 0 ∷ pos 2 ∷ pos 6 ∷ pos 6 ∷ pos 3 ∷ pos 5 ∷ pos 11 ∷ pos 14 ∷ pos 0
    ∷ pos 3 ∷ pos 9 ∷ pos 6 ∷ pos 5 ∷ pos 7 ∷ pos 4 ∷ pos 12 ∷ pos 1 ∷ pos 5 ∷ pos 14 ∷ pos 11 ∷ pos 3 ∷ pos 9 ∷ pos 4 ∷ pos 5 ∷ pos 26
    ∷ pos 3 ∷ pos 10 ∷ pos 6 ∷ pos 6 ∷ pos 7 ∷ pos 5 ∷ pos 12 ∷ pos 2 ∷ pos 6 ∷ pos 19 ∷ pos 10 ∷ pos 1 ∷ pos 12 ∷ pos 13 ∷ pos 6 ∷ pos 24
    ∷ pos 7 ∷ pos 7 ∷ pos 12 ∷ pos 9 ∷ pos 13 ∷ pos 1 ∷ pos 7 ∷ pos 9 ∷ pos 12 ∷ pos 20 ∷ pos 6 ∷ pos 33 ∷ pos 7 ∷ pos 13 ∷ pos 3 ∷ pos 12
    ∷ pos 2 ∷ pos 10 ∷ pos 6 ∷ pos 7 ∷ pos 5 ∷ pos 13 ∷ pos 11 ∷ pos 2 ∷ pos 5 ∷ pos 16 ∷ pos 12 ∷ pos 7 ∷ pos 8 ∷ pos 3 ∷ pos 5 ∷ pos 29
    ∷ pos 6 ∷ pos 22 ∷ pos 10 ∷ pos 2 ∷ pos 12 ∷ pos 17 ∷ pos 6 ∷ pos 27 ∷ pos 14 ∷ pos 9 ∷ pos 6 ∷ pos 34 ∷ pos 5 ∷ pos 39 ∷ pos 2 ∷ pos 14
    ∷ pos 5 ∷ pos 20 ∷ pos 14 ∷ pos 5 ∷ pos 9 ∷ pos 5 ∷ pos 5 ∷ pos 32 ∷ pos 11 ∷ pos 10 ∷ pos 6 ∷ pos 35 ∷ pos 5 ∷ pos 41 ∷ pos 2 ∷ pos 16
    ∷ pos 12 ∷ pos 23 ∷ pos 6 ∷ pos 37 ∷ pos 7 ∷ pos 14 ∷ pos 3 ∷ pos 16 ∷ pos 6 ∷ pos 46 ∷ pos 4 ∷ pos 6 ∷ pos 3 ∷ pos 21 ∷ pos 1 ∷ pos 8
    ∷ pos 1 ∷ pos 7 ∷ pos 3 ∷ pos 2 ∷ pos 4 ∷ pos 1 ∷ pos 6 ∷ pos 1 ∷ pos 3 ∷ pos 7 ∷ pos 7 ∷ pos 1 ∷ pos 6 ∷ pos 10 ∷ pos 12 ∷ pos 0
    ∷ pos 2 ∷ pos 7 ∷ pos 5 ∷ pos 6 ∷ pos 6 ∷ pos 12 ∷ pos 11 ∷ pos 1 ∷ pos 5 ∷ pos 15 ∷ pos 9 ∷ pos 2 ∷ pos 14 ∷ pos 6 ∷ pos 5 ∷ pos 27
    ∷ pos 2 ∷ pos 9 ∷ pos 5 ∷ pos 8 ∷ pos 6 ∷ pos 13 ∷ pos 14 ∷ pos 2 ∷ pos 6 ∷ pos 20 ∷ pos 12 ∷ pos 6 ∷ pos 10 ∷ pos 3 ∷ pos 6 ∷ pos 25
    ∷ pos 5 ∷ pos 18 ∷ pos 8 ∷ pos 2 ∷ pos 12 ∷ pos 16 ∷ pos 5 ∷ pos 31 ∷ pos 11 ∷ pos 9 ∷ pos 5 ∷ pos 34 ∷ pos 6 ∷ pos 40 ∷ pos 2 ∷ pos 13
    ∷ pos 3 ∷ pos 11 ∷ pos 7 ∷ pos 2 ∷ pos 6 ∷ pos 14 ∷ pos 12 ∷ pos 3 ∷ pos 7 ∷ pos 6 ∷ pos 13 ∷ pos 0 ∷ pos 12 ∷ pos 14 ∷ pos 7 ∷ pos 8
    ∷ pos 6 ∷ pos 23 ∷ pos 12 ∷ pos 10 ∷ pos 10 ∷ pos 4 ∷ pos 6 ∷ pos 28 ∷ pos 12 ∷ pos 21 ∷ pos 7 ∷ pos 10 ∷ pos 6 ∷ pos 41 ∷ pos 3 ∷ pos 13
    ∷ pos 5 ∷ pos 21 ∷ pos 9 ∷ pos 3 ∷ pos 11 ∷ pos 8 ∷ pos 5 ∷ pos 33 ∷ pos 12 ∷ pos 22 ∷ pos 7 ∷ pos 11 ∷ pos 6 ∷ pos 42 ∷ pos 3 ∷ pos 14
    ∷ pos 14 ∷ pos 11 ∷ pos 5 ∷ pos 36 ∷ pos 6 ∷ pos 44 ∷ pos 2 ∷ pos 17 ∷ pos 6 ∷ pos 47 ∷ pos 3 ∷ pos 18 ∷ pos 4 ∷ pos 7 ∷ pos 1 ∷ pos 9
    ∷ pos 2 ∷ pos 11 ∷ pos 6 ∷ pos 8 ∷ pos 6 ∷ pos 15 ∷ pos 10 ∷ pos 0 ∷ pos 5 ∷ pos 17 ∷ pos 12 ∷ pos 8 ∷ pos 11 ∷ pos 7 ∷ pos 6 ∷ pos 26
    ∷ pos 5 ∷ pos 19 ∷ pos 14 ∷ pos 4 ∷ pos 12 ∷ pos 18 ∷ pos 6 ∷ pos 29 ∷ pos 8 ∷ pos 4 ∷ pos 5 ∷ pos 35 ∷ pos 5 ∷ pos 40 ∷ pos 2 ∷ pos 15
    ∷ pos 5 ∷ pos 22 ∷ pos 11 ∷ pos 5 ∷ pos 12 ∷ pos 19 ∷ pos 6 ∷ pos 30 ∷ pos 14 ∷ pos 10 ∷ pos 6 ∷ pos 36 ∷ pos 6 ∷ pos 43 ∷ pos 4 ∷ pos 4
    ∷ pos 9 ∷ pos 7 ∷ pos 5 ∷ pos 37 ∷ pos 7 ∷ pos 15 ∷ pos 3 ∷ pos 17 ∷ pos 5 ∷ pos 44 ∷ pos 2 ∷ pos 19 ∷ pos 3 ∷ pos 22 ∷ pos 1 ∷ pos 10
    ∷ pos 5 ∷ pos 23 ∷ pos 12 ∷ pos 11 ∷ pos 14 ∷ pos 8 ∷ pos 6 ∷ pos 31 ∷ pos 9 ∷ pos 6 ∷ pos 7 ∷ pos 12 ∷ pos 5 ∷ pos 42 ∷ pos 3 ∷ pos 15
    ∷ pos 11 ∷ pos 11 ∷ pos 6 ∷ pos 38 ∷ pos 6 ∷ pos 45 ∷ pos 4 ∷ pos 5 ∷ pos 5 ∷ pos 45 ∷ pos 3 ∷ pos 19 ∷ pos 2 ∷ pos 21 ∷ pos 1 ∷ pos 11
    ∷ pos 8 ∷ pos 5 ∷ pos 5 ∷ pos 38 ∷ pos 5 ∷ pos 43 ∷ pos 2 ∷ pos 18 ∷ pos 5 ∷ pos 46 ∷ pos 3 ∷ pos 20 ∷ pos 2 ∷ pos 22 ∷ pos 1 ∷ pos 12
    ∷ pos 5 ∷ pos 47 ∷ pos 2 ∷ pos 20 ∷ pos 3 ∷ pos 23 ∷ pos 1 ∷ pos 13 ∷ pos 2 ∷ pos 23 ∷ pos 1 ∷ pos 14 ∷ pos 1 ∷ pos 15 ∷ pos 0 ∷ negsuc 0
    ∷ []

unfoldable pub family_at : ℕ → Family
family_at set = family (get_or families (2 * set) (pos 0)) (get_or families (2 * set + 1) (pos 0))
