-- Document 02, 'Change 1': the rule of the table of families. Definitions only.
use Rattle.std.specs.Prelude.{ℕ, zero, suc, ◌+◌, ◌-◌, ◌*◌, ◌^◌, cond, List, [], ◌∷◌, ◌++◌, map, ℤ, pos, negsuc, eqb, get_or, filter, flat_map, sum_by}
use Rattle.std.specs.List.{position_or_len}
use Rattle.tilings.specs.Tilings.{is_one_of}
use Rattle.signs.specs.declared.Family.{Family}
use Rattle.signs.specs.Sets.{eight, bit}
use Rattle.signs.specs.Rotations.{rotations}

-- the sets for cases 1 to 14
unfoldable pub firsts : List ℕ
firsts = 1 ∷ 3 ∷ 5 ∷ 65 ∷ 7 ∷ 21 ∷ 37 ∷ 15 ∷ 39 ∷ 85 ∷ 23 ∷ 30 ∷ 165 ∷ 29 ∷ []

-- a set with the cube turned: corner n is where the rotation brings it
abbrev pub turned : ℕ → List ℕ → ℕ
turned set r = sum_by (λ n. bit set n * 2 ^ get_or r n 0) eight

-- what the rotations and taking the complement make of a set
unfoldable pub made : ℕ → List ℕ
made set = let ts = map (turned set) rotations in ts ++ map (λ t. 255 - t) ts

-- the sets of k of the corners ns, in the dictionary order of their sorted corners: first those that begin with the first of ns
unfoldable pub choose : ℕ → List ℕ → List ℕ
choose zero ns = 0 ∷ []
choose (suc k) [] = []
choose (suc k) (n ∷ ns) = map (λ s. 2 ^ n + s) (choose k ns) ++ choose (suc k) ns

-- all sets, by size, then in dictionary order
unfoldable pub in_order : List ℕ
in_order = flat_map (λ k. choose k eight) (eight ++ 8 ∷ [])

-- the sets of the case that a set is listed for: row c of the case is its set number c
unfoldable pub rows : ℕ → List ℕ
rows first = let ts = made first in filter (λ s. is_one_of s ts) in_order

abbrev pub family : ℤ → ℤ → Family
family case configuration = record { case = case; configuration = configuration }

-- the first of the cases, from `case` on, that holds the set, with its place there
unfoldable pub family_in : ℕ → ℕ → List (List ℕ) → Family
family_in set case [] = family (pos case) (negsuc 0)
family_in set case (sets ∷ cases) = cond (is_one_of set sets) (family (pos case) (pos (position_or_len (eqb set) sets))) (family_in set (suc case) cases)

-- sets 0 and 255 are case 0, configuration -1
unfoldable pub family_by : List (List ℕ) → ℕ → Family
family_by cases set = cond (is_one_of set (0 ∷ 255 ∷ [])) (family (pos 0) (negsuc 0)) (family_in set 1 cases)

-- case and configuration of a set
unfoldable pub family_of : ℕ → Family
family_of set = family_by (map rows firsts) set
