-- The table obeys the rule: one test computed over all 256 sets, and the law that makes of it the rule at a set. Assumes nothing.
use mathlib.Core.Path.{◌≡◌, ◌∙◌, ap}
use mathlib.Core.Bool.{Bool, false, ◌&&◌}
use mathlib.Core.List.{List, [], ◌∷◌, map}
use Prim.Native.Nat.{ℕ, ◌<◌}
use lib.Dec.{T, eqb, eqb→eq}
use lib.IntN.{ℤ, pos, negsuc}
use lib.Ieee.Fits.{and_l, and_r}
use mir.Syntax.{w8}
use mir.Val.{to_z, of_z}
use Rattle.std.specs.Prelude.{slice_index_or}
use Rattle.cube.proofs.Table.{all_under, under}
use Rattle.signs.specs.declared.Family.{Family}
use Rattle.signs.specs.Rotations.{offsets, ways, is_rotation, rotations}
use Rattle.signs.specs.Rule.{family, firsts, made, choose, in_order, rows, family_in, family_by, family_of}
use Rattle.signs.specs.Table.{families, family_at}

abbrev pub same_number : ℤ → ℤ → Bool
same_number (pos m) (pos n) = eqb m n
same_number (pos m) (negsuc n) = false
same_number (negsuc m) (pos n) = false
same_number (negsuc m) (negsuc n) = eqb m n

same_number_lem : (x y : ℤ) → T (same_number x y) → x ≡ y
same_number_lem (pos m) (pos n) t = ap pos (eqb→eq m n t)
same_number_lem (pos m) (negsuc n) t = absurd t
same_number_lem (negsuc m) (pos n) t = absurd t
same_number_lem (negsuc m) (negsuc n) t = ap negsuc (eqb→eq m n t)

abbrev pub same : Family → Family → Bool
same f g = same_number f.case g.case && same_number f.configuration g.configuration

pub same_lem : (f g : Family) → T (same f g) → f ≡ g
same_lem f g t =
    let case = same_number_lem f.case g.case (and_l (same_number f.case g.case) (same_number f.configuration g.configuration) t) in
    let configuration = same_number_lem f.configuration g.configuration (and_r (same_number f.case g.case) (same_number f.configuration g.configuration) t) in
    λ i. record { case = case i; configuration = configuration i }

-- the cases' sets are an argument, so that they are made once
abbrev obeys : List (List ℕ) → Bool
obeys cases = all_under 256 (λ set. same (family_at set) (family_by cases set))

table_obeys : T (obeys (map rows firsts))
unfolding offsets ways is_rotation rotations firsts made choose in_order rows family_in family_by families family_at
table_obeys = tt

pub by_rule : (set : ℕ) → set < 256 → family_at set ≡ family_of set
unfolding family_of
by_rule set h = same_lem (family_at set) (family_of set) (under 256 (λ s. same (family_at s) (family_by (map rows firsts) s)) table_obeys set h)

-- ---- the code's table, pair by pair
abbrev pub paired : List ℤ → List (List ℤ)
paired [] = []
paired (case ∷ []) = []
paired (case ∷ (configuration ∷ ns)) = (case ∷ configuration ∷ []) ∷ paired ns

-- the pair of a set as the code reads it
abbrev pub read_pair : List ℤ → Family
read_pair pair = let at : ℕ → ℤ = λ k. to_z w8 (of_z w8 (slice_index_or pair k (pos 0))) in family (at 0) (at 1)

abbrev pub read : ℕ → Family
read set = read_pair (slice_index_or (paired families) set [])

all_read : T (all_under 256 (λ set. same (read set) (family_at set)))
unfolding families family_at
all_read = tt

pub read_table : (set : ℕ) → set < 256 → read set ≡ family_at set
read_table set h = same_lem (read set) (family_at set) (under 256 (λ s. same (read s) (family_at s)) all_read set h)

pub read_rule : (set : ℕ) → set < 256 → read set ≡ family_of set
read_rule set h = read_table set h ∙ by_rule set h
