-- A list's choices by the table of families, which computes fast, in place of its rule. Assumes nothing.
use mathlib.Core.Path.{◌≡◌, refl, sym, ap}
use mathlib.Core.List.{List, [], ◌∷◌, ◌++◌, map}
use Prim.Native.Nat.{ℕ, zero, suc}
use lib.ListN.{length}
use lib.Ieee.{Float}
use Rattle.cube.specs.declared.Cube.{Cube}
use Rattle.tilings.specs.Plan.{Reached}
use Rattle.choice.specs.Choice.{choice_of}
use Rattle.signs.specs.declared.Family.{Family}
use Rattle.signs.specs.Sets.{set_of}
use Rattle.signs.specs.Table.{family_at}
use Rattle.signs.specs.Front.{choice_for}
use Rattle.signs.proofs.Sets.{set_below}
use Rattle.signs.proofs.Ruled.{by_rule}
use Rattle.reader.specs.Reader.{cube_at}
use Rattle.rows.specs.Rows.{bytes_of}
use Rattle.list.specs.Lists.{cubes, rows_of, answers_by}
use Rattle.list_signs.specs.Lists.{choice_at, result_of, answers_of}

abbrev pub tabled : Cube → Reached
tabled q = let f = family_at (set_of q) in choice_of f.case f.configuration q

pub choice_tabled : (q : Cube) → choice_for q ≡ tabled q
choice_tabled q = ap (λ (f : Family). choice_of f.case f.configuration q) (sym (by_rule (set_of q) (set_below q)))

rows_same : (f g : ℕ → Reached) → ((i : ℕ) → f i ≡ g i) → (n : ℕ) → rows_of f n ≡ rows_of g n
unfolding rows_of
rows_same f g same zero = refl
rows_same f g same (suc n) = λ j. rows_same f g same n j ++ bytes_of (same n j)

abbrev pub answers_tabled : List Float → List ℕ → List ℕ
answers_tabled xs ys = answers_by (result_of xs (length ys)) (rows_of (λ i. tabled (cube_at xs i)) (cubes xs)) ys

pub answers_same : (xs : List Float) (ys : List ℕ) → answers_of xs ys ≡ answers_tabled xs ys
unfolding answers_of choice_at
answers_same xs ys =
    ap (λ (rows : List ℕ). answers_by (result_of xs (length ys)) rows ys) (rows_same (choice_at xs) (λ i. tabled (cube_at xs i)) (λ i. choice_tabled (cube_at xs i)) (cubes xs))

pub map_same : {A : Type 0} (f g : A → List ℕ) → ((t : A) → f t ≡ g t) → (ts : List A) → map f ts ≡ map g ts
map_same f g same [] = refl
map_same f g same (t ∷ ts) = λ j. same t j ∷ map_same f g same ts j
