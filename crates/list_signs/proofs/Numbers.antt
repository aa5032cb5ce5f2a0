-- A list without numbers is refused by 3, 6 or 7 alone; and a cube that is not refused has finite corners. Assumes nothing.
use mathlib.Core.Path.{◌≡◌, sym, ap, ◌∙◌}
use mathlib.Core.Bool.{Bool, true, false, cond}
use mathlib.Core.List.{List, [], ◌∷◌}
use Prim.Native.Nat.{ℕ, zero, suc, ◌*◌}
use lib.Dec.{T, eqb, leb}
use lib.Ieee.{Float}
use Rattle.cube.specs.declared.Cube.{Cube}
use Rattle.cube.specs.Corners.{all_finite}
use Rattle.tilings.specs.Tilings.{is_one_of}
use Rattle.reader.specs.Reader.{cube_at}
use Rattle.rows.specs.Rows.{width, Result, refused_at}
use Rattle.list.specs.Lists.{cubes, first_from, result_by}
use Rattle.list_signs.specs.Lists.{refusal_at, whole, result_of, number_in}

-- ---- one cube, as the code reads it
finite : (b : Bool) → ◌≡◌ {A = ℕ} (cond b 0 3) 0 → T b
finite true e = tt
finite false e = cc

module _ (xs : List Float) (i : ℕ) (q : Cube) (e : q ≡ cube_at xs i) where
  pub told : (b d : Bool) → b ≡ all_finite q → b ≡ d → cond d 0 3 ≡ refusal_at xs i
  unfolding refusal_at
  told b d f g = ap (λ (a : Bool). cond {A = ℕ} a 0 3) (sym g ∙ f ∙ ap all_finite e)

  pub made_finite : refusal_at xs i ≡ 0 → T (all_finite q)
  unfolding refusal_at
  made_finite made = finite (all_finite q) (ap (λ (p : Cube). cond {A = ℕ} (all_finite p) 0 3) e ∙ made)

-- ---- the whole list

abbrev Known : Result → Type 0
Known r = T (is_one_of (number_in r) (0 ∷ 3 ∷ 6 ∷ 7 ∷ []))

turn : (b : Bool) (i : ℕ) (rest : Result) → Known rest → Known (cond (eqb (cond b 0 3) 0) rest (refused_at (cond b 0 3) i))
turn true i rest h = h
turn false i rest h = tt

first_known : (xs : List Float) (k i : ℕ) → Known (first_from (refusal_at xs) k i)
unfolding first_from refusal_at
first_known xs zero i = tt
first_known xs (suc k) i = turn (all_finite (cube_at xs i)) i (first_from (refusal_at xs) k (suc i)) (first_known xs k (suc i))

by_tests : (b d : Bool) (rest : Result) → Known rest → Known (cond b (cond d rest (refused_at 7 0)) (refused_at 6 0))
by_tests true true rest h = h
by_tests true false rest h = tt
by_tests false d rest h = tt

pub known : (xs : List Float) (room : ℕ) → Known (result_of xs room)
unfolding result_of result_by
known xs room = by_tests (whole xs) (leb (width * cubes xs) room) (first_from (refusal_at xs) (cubes xs) 0) (first_known xs (cubes xs) 0)
