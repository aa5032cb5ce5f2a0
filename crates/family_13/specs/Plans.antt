-- Document 01, 'Choice': the plan of case 13 for a configuration c, line by line as handle_cube has it. Definitions only.
use Rattle.std.specs.Prelude.{ℕ, ◌-◌, cond, List, [], ◌∷◌, ℤ, pos, negsuc, leb, eqb, get_or}
use Rattle.tilings.specs.Tables.{entry}
use Rattle.tilings.specs.Tilings.{TILING_13_1, TILING_13_1_, TILING_13_2, TILING_13_2_, TILING_13_3, TILING_13_3_, TILING_13_4, TILING_13_5_1, TILING_13_5_2}
use Rattle.tilings.specs.Plan.{Plan, untiled, tile, ask, inside13, ask_in_turn}
use Rattle.family_13.specs.Tables.{TEST_13, SUB_CONFIG_13}

-- of the tables of case 13 the one that SUB_CONFIG_13's number belongs to: the number of its first column, and its code
pub record Part : Type 0 where
  pub first : ℕ
  pub code : ℕ

abbrev part : ℕ → ℕ → Part
part n code = record { first = n; code = code }

unfoldable pub parts13 : List Part
parts13 =
    part 0 TILING_13_1
    ∷ part 1 TILING_13_2
    ∷ part 7 TILING_13_3
    ∷ part 19 TILING_13_4
    ∷ part 23 TILING_13_5_1
    ∷ part 27 TILING_13_3_
    ∷ part 39 TILING_13_2_
    ∷ part 45 TILING_13_1_
    ∷ []

-- the last one that begins at the number or before; `p` stands so far
unfoldable pub last_from : ℕ → Part → List Part → Part
last_from n p [] = p
last_from n p (r ∷ rs) = last_from n (cond (leb r.first n) r p) rs

-- the part that a number belongs to
abbrev pub part_of13 : ℕ → Part
part_of13 n = last_from n (part 0 TILING_13_1) parts13

-- 13_5 makes the case-13 test, and 13_5_2 uses the other configuration's row
unfoldable pub tile13 : ℕ → ℕ → ℕ → Plan
tile13 c code column =
    cond (eqb code TILING_13_5_1)
    (ask inside13 (tile TILING_13_5_1 c column) (tile TILING_13_5_2 (1 - c) column))
    (tile code c column)

-- by the sub-configuration and SUB_CONFIG_13's number
unfoldable pub part13 : ℕ → ℕ → ℤ → Plan
part13 c sub (negsuc n) = untiled c sub
part13 c sub (pos n) = let p = part_of13 n in tile13 c p.code (n - p.first)

abbrev pub part_at13 : ℕ → ℕ → Plan
part_at13 c sub = part13 c sub (get_or SUB_CONFIG_13 sub (negsuc 0))

-- the faces whose answers make the sub-configuration
abbrev pub faces13 : ℕ → List ℤ
faces13 c = let e = entry TEST_13 c in e 0 ∷ e 1 ∷ e 2 ∷ e 3 ∷ e 4 ∷ e 5 ∷ []

unfoldable pub plan13 : ℕ → Plan
plan13 c = ask_in_turn (faces13 c) (part_at13 c)
