-- Document 02, 'Change 1': the front, from a cube to a choice, with what is promised of it. Definitions only.
use Rattle.std.specs.Prelude.{ℕ, ◌≡◌, Bool, true, cond, not, ◌&&◌, T}
use mathlib.Core.List.{map, foldr}
use Rattle.std.specs.Float.Ieee.{eq}
use Rattle.binary32.specs.Numbers.{plus_zero}
use Rattle.cube.specs.declared.Cube.{Cube}
use Rattle.cube.specs.Corners.{corners, all_finite}
use Rattle.tilings.specs.Plan.{Reached}
use Rattle.choice.specs.Choice.{choice_of, Said, made, refused}
use Rattle.signs.specs.Sets.{set_of}
use Rattle.signs.specs.Rule.{family_of}

-- the choice for the family of the cube's set
abbrev pub choice_for : Cube → Reached
choice_for q = let f = family_of (set_of q) in choice_of f.case f.configuration q

-- refusal 3 alone, before anything else; or that choice
unfoldable pub front_of : Cube → Said
front_of q = cond (all_finite q) (made (choice_for q)) (refused 3)

-- the number of the refusal, 0 where there is none
abbrev pub refusal_in : Said → ℕ
refusal_in (made r) = 0
refusal_in (refused n) = n

-- the picks without a match, none where it is refused
abbrev pub unmatched_in : Said → ℕ
unmatched_in (made r) = r.notes.unmatched
unmatched_in (refused n) = 0

-- no corner is a zero of either sign
unfoldable pub no_zeros : Cube → Bool
no_zeros q = foldr ◌&&◌ true (map (λ x. not (eq x plus_zero)) (corners q))

-- corners that suit their case and are not zero leave no pick without a match
abbrev pub NoneUnmatched : Cube → Said → Type 0
NoneUnmatched q s = T (no_zeros q) → unmatched_in s ≡ 0
