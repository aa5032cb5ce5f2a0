-- That the definitions say something, by computation: a row of each kind, no two bytes alike where they can differ, and the parts of a list of three and a half
-- cubes of two elements, with tags 1, 0, 1. Assumes nothing.
use mathlib.Core.Path.{◌≡◌, refl}
use mathlib.Core.Bool.{true, false}
use mathlib.Core.List.{List, [], ◌∷◌, map}
use Prim.Native.Nat.{ℕ}
use Rattle.notes.specs.Notes.{no_notes, tests_of}
use Rattle.tilings.specs.Plan.{empty, no_tiling, tiling, reach}
use Rattle.rows.specs.Rows.{bytes_of}
use Rattle.rows.specs.Parts.{block, own, replaced, places_from}

-- document 02, Change 10: code, row, column, centre + 2 × unsettled, unmatched, readings
rows_hold : map bytes_of
    (reach empty no_notes
    ∷ reach (no_tiling 1 37) (tests_of 6)
    ∷ reach (tiling 33 11 7 true) (record { unsettled = 3; unmatched = 1; readings = 4 })
    ∷ reach (tiling 32 10 5 false) (record { unsettled = 1; unmatched = 3; readings = 6 })
    ∷ [])
    ≡ (0 ∷ 0 ∷ 0 ∷ 0 ∷ 0 ∷ 0 ∷ [])
    ∷ (255 ∷ 1 ∷ 37 ∷ 0 ∷ 0 ∷ 6 ∷ [])
    ∷ (33 ∷ 11 ∷ 7 ∷ 7 ∷ 1 ∷ 4 ∷ [])
    ∷ (32 ∷ 10 ∷ 5 ∷ 2 ∷ 3 ∷ 6 ∷ [])
    ∷ []
unfolding bytes_of
rows_hold = refl

abbrev tags : List ℕ
tags = 1 ∷ 0 ∷ 1 ∷ []

abbrev values : List ℕ
values = 1 ∷ 2 ∷ 3 ∷ 4 ∷ 5 ∷ 6 ∷ 7 ∷ []

blocks_hold : block 2 values 0 ∷ block 2 values 2 ∷ block 2 values 3 ∷ [] ≡ (1 ∷ 2 ∷ []) ∷ (5 ∷ 6 ∷ []) ∷ (7 ∷ []) ∷ []
blocks_hold = refl

own_holds : own 2 1 tags values ∷ own 2 0 tags values ∷ own 2 2 tags values ∷ [] ≡ (1 ∷ 2 ∷ 5 ∷ 6 ∷ []) ∷ (3 ∷ 4 ∷ []) ∷ [] ∷ []
unfolding own
own_holds = refl

replaced_holds : replaced 2 1 tags (20 ∷ 21 ∷ 22 ∷ 23 ∷ []) values ∷ replaced 2 0 tags (20 ∷ 21 ∷ []) values ∷ []
    ≡ (20 ∷ 21 ∷ 3 ∷ 4 ∷ 22 ∷ 23 ∷ 7 ∷ []) ∷ (1 ∷ 2 ∷ 20 ∷ 21 ∷ 5 ∷ 6 ∷ 7 ∷ []) ∷ []
unfolding replaced
replaced_holds = refl

places_hold : places_from 1 0 tags ∷ places_from 0 5 tags ∷ [] ≡ (0 ∷ 2 ∷ []) ∷ (6 ∷ []) ∷ []
unfolding places_from
places_hold = refl
