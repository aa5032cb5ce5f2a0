-- Document 01, 'A choice': the cases with their configurations, and the tilings by the source's table names with their codes, columns and centres. Definitions only.
use Rattle.std.specs.Prelude.{ℕ, Bool, false, cond, ◌||◌, eqb, get_or}
use mathlib.Core.List.{List, [], ◌∷◌, map, foldr}

-- how many configurations each case has, from case 0, which has -1 alone
unfoldable pub configurations : List ℕ
configurations = 0 ∷ 16 ∷ 24 ∷ 24 ∷ 8 ∷ 48 ∷ 48 ∷ 16 ∷ 6 ∷ 8 ∷ 6 ∷ 12 ∷ 24 ∷ 2 ∷ 12 ∷ []

-- codes 1 to 38
abbrev pub TILING_1 : ℕ
TILING_1 = 1

abbrev pub TILING_2 : ℕ
TILING_2 = 2

abbrev pub TILING_3_1 : ℕ
TILING_3_1 = 3

abbrev pub TILING_3_2 : ℕ
TILING_3_2 = 4

abbrev pub TILING_4_1 : ℕ
TILING_4_1 = 5

abbrev pub TILING_4_2 : ℕ
TILING_4_2 = 6

abbrev pub TILING_5 : ℕ
TILING_5 = 7

abbrev pub TILING_6_1_1 : ℕ
TILING_6_1_1 = 8

abbrev pub TILING_6_1_2 : ℕ
TILING_6_1_2 = 9

abbrev pub TILING_6_2 : ℕ
TILING_6_2 = 10

abbrev pub TILING_7_1 : ℕ
TILING_7_1 = 11

abbrev pub TILING_7_2 : ℕ
TILING_7_2 = 12

abbrev pub TILING_7_3 : ℕ
TILING_7_3 = 13

abbrev pub TILING_7_4_1 : ℕ
TILING_7_4_1 = 14

abbrev pub TILING_7_4_2 : ℕ
TILING_7_4_2 = 15

abbrev pub TILING_8 : ℕ
TILING_8 = 16

abbrev pub TILING_9 : ℕ
TILING_9 = 17

abbrev pub TILING_10_1_1 : ℕ
TILING_10_1_1 = 18

abbrev pub TILING_10_1_1_ : ℕ
TILING_10_1_1_ = 19

abbrev pub TILING_10_1_2 : ℕ
TILING_10_1_2 = 20

abbrev pub TILING_10_2 : ℕ
TILING_10_2 = 21

abbrev pub TILING_10_2_ : ℕ
TILING_10_2_ = 22

abbrev pub TILING_11 : ℕ
TILING_11 = 23

abbrev pub TILING_12_1_1 : ℕ
TILING_12_1_1 = 24

abbrev pub TILING_12_1_1_ : ℕ
TILING_12_1_1_ = 25

abbrev pub TILING_12_1_2 : ℕ
TILING_12_1_2 = 26

abbrev pub TILING_12_2 : ℕ
TILING_12_2 = 27

abbrev pub TILING_12_2_ : ℕ
TILING_12_2_ = 28

abbrev pub TILING_13_1 : ℕ
TILING_13_1 = 29

abbrev pub TILING_13_1_ : ℕ
TILING_13_1_ = 30

abbrev pub TILING_13_2 : ℕ
TILING_13_2 = 31

abbrev pub TILING_13_2_ : ℕ
TILING_13_2_ = 32

abbrev pub TILING_13_3 : ℕ
TILING_13_3 = 33

abbrev pub TILING_13_3_ : ℕ
TILING_13_3_ = 34

abbrev pub TILING_13_4 : ℕ
TILING_13_4 = 35

abbrev pub TILING_13_5_1 : ℕ
TILING_13_5_1 = 36

abbrev pub TILING_13_5_2 : ℕ
TILING_13_5_2 = 37

abbrev pub TILING_14 : ℕ
TILING_14 = 38

-- the tilings of each case, from case 0
unfoldable pub tilings_of : List (List ℕ)
tilings_of =
    []
    ∷ (TILING_1 ∷ [])
    ∷ (TILING_2 ∷ [])
    ∷ (TILING_3_1 ∷ TILING_3_2 ∷ [])
    ∷ (TILING_4_1 ∷ TILING_4_2 ∷ [])
    ∷ (TILING_5 ∷ [])
    ∷ (TILING_6_1_1 ∷ TILING_6_1_2 ∷ TILING_6_2 ∷ [])
    ∷ (TILING_7_1 ∷ TILING_7_2 ∷ TILING_7_3 ∷ TILING_7_4_1 ∷ TILING_7_4_2 ∷ [])
    ∷ (TILING_8 ∷ [])
    ∷ (TILING_9 ∷ [])
    ∷ (TILING_10_1_1 ∷ TILING_10_1_1_ ∷ TILING_10_1_2 ∷ TILING_10_2 ∷ TILING_10_2_ ∷ [])
    ∷ (TILING_11 ∷ [])
    ∷ (TILING_12_1_1 ∷ TILING_12_1_1_ ∷ TILING_12_1_2 ∷ TILING_12_2 ∷ TILING_12_2_ ∷ [])
    ∷ (TILING_13_1 ∷ TILING_13_1_ ∷ TILING_13_2 ∷ TILING_13_2_ ∷ TILING_13_3 ∷ TILING_13_3_ ∷ TILING_13_4 ∷ TILING_13_5_1 ∷ TILING_13_5_2 ∷ [])
    ∷ (TILING_14 ∷ [])
    ∷ []

-- the first tiling of a case, its only one where the case asks nothing; there is no code 0
unfoldable pub first_tiling : ℕ → ℕ
first_tiling case = get_or (get_or tilings_of case []) 0 0

abbrev pub is_one_of : ℕ → List ℕ → Bool
is_one_of code codes = foldr ◌||◌ false (map (eqb code) codes)

-- how many columns a row has
unfoldable pub columns_of : ℕ → ℕ
columns_of code =
    cond (is_one_of code (TILING_7_2 ∷ TILING_7_3 ∷ [])) 3
    (cond (is_one_of code (TILING_13_2 ∷ TILING_13_2_ ∷ [])) 6
    (cond (is_one_of code (TILING_13_3 ∷ TILING_13_3_ ∷ [])) 12
    (cond (is_one_of code (TILING_13_4 ∷ TILING_13_5_1 ∷ TILING_13_5_2 ∷ [])) 4 1)))

-- centre is yes exactly where handle_cube calls compute_c_vertex
unfoldable pub has_centre : ℕ → Bool
has_centre code =
    is_one_of code
    (TILING_7_3 ∷ TILING_10_2 ∷ TILING_10_2_ ∷ TILING_12_2 ∷ TILING_12_2_ ∷ TILING_13_3 ∷ TILING_13_3_ ∷ TILING_13_4 ∷ [])
