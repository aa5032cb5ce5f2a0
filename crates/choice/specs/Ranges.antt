-- Document 01, 'A choice': what a choice for a case can be. Definitions only.
use Rattle.std.specs.Prelude.{ℕ, Bool, false, ◌&&◌, [], ◌∷◌, ℤ, pos, negsuc, eqb, ltb, get_or}
use Rattle.std.specs.Bool.{beq}
use Rattle.tilings.specs.Tilings.{configurations, tilings_of, is_one_of, columns_of, has_centre}
use Rattle.tilings.specs.Plan.{Chosen, empty, no_tiling, tiling, Reached}
use Rattle.family_13.specs.Tables.{SUB_CONFIG_13}
use Rattle.choice.specs.Choice.{Said, made, refused}
use Rattle.choice.specs.Figures.{figures_for, within}

-- -1 is negsuc 0
abbrev is_minus1 : ℤ → Bool
is_minus1 (pos n) = false
is_minus1 (negsuc n) = eqb n 0

-- whether SUB_CONFIG_13 holds -1 at a sub-configuration; past its end it holds nothing
unfoldable pub holds_minus1 : ℕ → Bool
holds_minus1 sub = is_minus1 (get_or SUB_CONFIG_13 sub (pos 0))

-- a tiling of the case, a row and a column that its table has, and its centre; or what else there is: empty for case 0, no tiling for case 13
-- where SUB_CONFIG_13 holds -1
unfoldable pub placed : ℕ → Chosen → Bool
placed case empty = eqb case 0
placed case (no_tiling c sub) = eqb case 13 && ltb c 2 && holds_minus1 sub
placed case (tiling code row column centre) =
    is_one_of code (get_or tilings_of case [])
    && ltb row (get_or configurations case 0)
    && ltb column (columns_of code)
    && beq centre (has_centre code)

-- with what was counted within the figures of document 02, Change 7
unfoldable pub in_ranges : ℕ → Reached → Bool
in_ranges case r = placed case r.choice && within (figures_for case r.choice) r.notes

-- or one of the refusals of a choice
unfoldable pub said_in_ranges : ℕ → Said → Bool
said_in_ranges case (made r) = in_ranges case r
said_in_ranges case (refused n) = is_one_of n (1 ∷ 2 ∷ 3 ∷ [])
