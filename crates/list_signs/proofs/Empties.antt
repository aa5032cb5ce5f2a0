-- A list of any number of cubes of zeros is done, and its rows are zeros. Assumes nothing.
use mathlib.Core.Path.{◌≡◌, refl, ap, ◌∙◌}
use mathlib.Core.Bool.{true, cond}
use mathlib.Core.List.{List, ◌++◌}
use Prim.Native.Nat.{ℕ, ◌*◌, ◌%◌, ◌≤◌, ◌<◌}
use native.Mathlib.Omega.{arith}
use lib.IntN.{pos, negsuc}
use lib.ListN.{length, drop, replicate}
use lib.Ieee.{of_bits, lt}
use borrow.Author.Tests.{eq-eqb}
use Rattle.cube.specs.Bits.{number_of}
use Rattle.cube.specs.Corners.{corners, value_at, corner_of, all_finite}
use Rattle.notes.specs.Notes.{no_notes}
use Rattle.tilings.specs.Plan.{empty, reach}
use Rattle.choice.specs.Choice.{choice_of}
use Rattle.signs.specs.declared.Family.{Family}
use Rattle.signs.specs.Sets.{set_by, set_of}
use Rattle.signs.specs.Rule.{family}
use Rattle.signs.specs.Table.{families, family_at}
use Rattle.signs.specs.Front.{choice_for}
use Rattle.rows.specs.Rows.{width, done}
use Rattle.list.specs.Lists.{cubes}
use Rattle.list.specs.Tries.{zeros}
use Rattle.list.proofs.Empties.{nought, nought_empty, cube_at_lem, long, many, empty_list}
use Rattle.list_signs.specs.Lists.{refusal_at, choice_at, whole, result_of, answers_of}
use Rattle.list_signs.proofs.Tabled.{choice_tabled}

nought_made : ◌≡◌ {A = ℕ} (cond (all_finite nought) 0 3) 0
unfolding corners all_finite
nought_made = refl

-- no corner belongs
nought_family : family_at (set_of nought) ≡ family (pos 0) (negsuc 0)
unfolding families family_at set_of set_by corner_of value_at corners of_bits lt number_of
nought_family = refl

nought_chosen : choice_for nought ≡ reach empty no_notes
nought_chosen = choice_tabled nought ∙ ap (λ (f : Family). choice_of f.case f.configuration nought) nought_family ∙ nought_empty

module _ (k : ℕ) where
  made_at : (i : ℕ) → i < k → refusal_at (zeros k) i ≡ 0
  unfolding refusal_at
  made_at i h = rw (cube_at_lem k i h) nought_made

  chosen_at : (i : ℕ) → i < k → choice_at (zeros k) i ≡ reach empty no_notes
  unfolding choice_at
  chosen_at i h = ap choice_for (cube_at_lem k i h) ∙ nought_chosen

  agreed : whole (zeros k) ≡ true
  agreed =
      let l = long k in
      eq-eqb (length (zeros k) % 8) 0 (omega arith)

pub any_number_lem : (k : ℕ) (ys : List ℕ) → width * k ≤ length ys
    → (result_of (zeros k) (length ys) ≡ done) × (answers_of (zeros k) ys ≡ replicate (width * k) 0 ++ drop (width * k) ys)
unfolding result_of answers_of
any_number_lem k ys room =
    let xs = zeros k in
    empty_list (refusal_at xs) (choice_at xs) k (made_at k) (chosen_at k) ys room (whole xs) (cubes xs) (agreed k) (many k)
