-- A list of any number of empty cubes is done, and its rows are zeros. Assumes nothing.
use mathlib.Core.Path.{◌≡◌, refl, ap, ◌∙◌}
use mathlib.Core.Bool.{Bool, true}
use mathlib.Core.List.{List, ◌++◌}
use Prim.Native.Nat.{ℕ, zero, suc, ◌+◌, ◌*◌, ◌/◌, ◌%◌, ◌≤◌, ◌<◌}
use native.Mathlib.Omega.{arith}
use lib.IntN.{pos, negsuc}
use lib.ListN.{length, get_or, drop, replicate, length-replicate, get_or-replicate, replicate-append-replicate}
use lib.Ieee.{nan}
use borrow.Author.Tests.{eq-eqb, le-leb}
use Rattle.binary32.specs.Numbers.{plus_zero}
use Rattle.cube.specs.declared.Cube.{Cube}
use Rattle.cube.specs.Corners.{corners, all_finite}
use Rattle.tilings.specs.Tilings.{configurations}
use Rattle.notes.specs.Notes.{no_notes}
use Rattle.tilings.specs.Plan.{empty, Reached, reach, run}
use Rattle.families.specs.Plans.{plans, plan_of}
use Rattle.choice.specs.Choice.{refusal_of, choice_of}
use Rattle.reader.specs.Reader.{cube_at}
use Rattle.rows.specs.Rows.{width, refusal_at, choice_at, bytes_of, Result, done}
use Rattle.list.specs.Lists.{cubes, lengths_agree, first_from, result_by, result_of, rows_of, answers_by, answers_of}
use Rattle.list.specs.Tries.{zeros, empties}

abbrev pub nought : Cube
nought = record { c0 = plus_zero; c1 = plus_zero; c2 = plus_zero; c3 = plus_zero; c4 = plus_zero; c5 = plus_zero; c6 = plus_zero; c7 = plus_zero }

nought_made : refusal_of (pos 0) (negsuc 0) nought ≡ 0
unfolding refusal_of configurations corners all_finite
nought_made = refl

pub nought_empty : choice_of (pos 0) (negsuc 0) nought ≡ reach empty no_notes
unfolding choice_of plan_of plans run
nought_empty = refl

-- k cubes of which none is refused and each is empty
module _ (refusal : ℕ → ℕ) (choice : ℕ → Reached) (k : ℕ) (made : (i : ℕ) → i < k → refusal i ≡ 0) (bare : (i : ℕ) → i < k → choice i ≡ reach empty no_notes) where
  none_refused : (j i : ℕ) → i + j ≤ k → first_from refusal j i ≡ done
  unfolding first_from
  none_refused zero i h = refl
  none_refused (suc j) i h = rw (made i (omega arith)) (none_refused j (suc i) (omega arith))

  rows_zero : (j : ℕ) → j ≤ k → rows_of choice j ≡ replicate (width * j) 0
  unfolding rows_of bytes_of
  rows_zero zero h = refl
  rows_zero (suc j) h =
      let e : width * j + width ≡ width * suc j = omega arith in
      ap (λ (s : Reached). rows_of choice j ++ bytes_of s) (bare j (omega arith))
      ∙ ap (λ (r : List ℕ). r ++ replicate width 0) (rows_zero j (omega arith))
      ∙ replicate-append-replicate (width * j) width 0
      ∙ ap (λ (n : ℕ). replicate n 0) e

  module _ (ys : List ℕ) (room : width * k ≤ length ys) where
    all_done : result_by true k (length ys) refusal ≡ done
    unfolding result_by
    all_done = rw (le-leb (width * k) (length ys) room) (none_refused k 0 (omega arith))

    all_zero : answers_by (result_by true k (length ys) refusal) (rows_of choice k) ys ≡ replicate (width * k) 0 ++ drop (width * k) ys
    all_zero =
        ap (λ (r : Result). answers_by r (rows_of choice k) ys) all_done
        ∙ ap (λ (rows : List ℕ). answers_by done rows ys) (rows_zero k (omega arith))
        ∙ ap (λ (n : ℕ). replicate (width * k) 0 ++ drop n ys) (length-replicate (width * k) 0)

    -- where the lengths agree, and of n cubes there are k
    pub empty_list : (agree : Bool) (n : ℕ) → agree ≡ true → n ≡ k
        → (result_by agree n (length ys) refusal ≡ done) × (answers_by (result_by agree n (length ys) refusal) (rows_of choice n) ys ≡ replicate (width * k) 0 ++ drop (width * k) ys)
    empty_list agree n e f = rw (e, f) (all_done, all_zero)

-- ---- the numbers
numbers_length : (k : ℕ) → length (empties k) ≡ 2 * k
numbers_length zero = refl
numbers_length (suc k) =
    let e = numbers_length k in
    omega arith

-- those of cube i
numbers_at : (k i : ℕ) → i < k → (get_or (empties k) (2 * i) (pos 0) ≡ pos 0) × (get_or (empties k) (2 * i + 1) (pos 0) ≡ negsuc 0)
numbers_at zero i h = absurd (omega arith)
numbers_at (suc k) zero h = (refl, refl)
numbers_at (suc k) (suc i) h =
    let e : 2 * suc i ≡ suc (suc (2 * i)) = omega arith in
    let f : 2 * suc i + 1 ≡ suc (suc (2 * i + 1)) = omega arith in
    let r = numbers_at k i (omega arith) in
    (ap (λ (n : ℕ). get_or (empties (suc k)) n (pos 0)) e ∙ r.0, ap (λ (n : ℕ). get_or (empties (suc k)) n (pos 0)) f ∙ r.1)

module _ (k : ℕ) where
  value : (j : ℕ) → j < 8 * k → get_or (zeros k) j nan ≡ plus_zero
  value j h = get_or-replicate (8 * k) j plus_zero nan h

  pub cube_at_lem : (i : ℕ) → i < k → cube_at (zeros k) i ≡ nought
  unfolding cube_at
  cube_at_lem i h =
      rw
      (value (8 * i) (omega arith), value (8 * i + 1) (omega arith), value (8 * i + 2) (omega arith), value (8 * i + 3) (omega arith), value (8 * i + 4) (omega arith), value (8 * i + 5) (omega arith), value (8 * i + 6) (omega arith), value (8 * i + 7) (omega arith))

  made_at : (i : ℕ) → i < k → refusal_at (zeros k) (empties k) i ≡ 0
  unfolding refusal_at
  made_at i h = rw ((numbers_at k i h).0, (numbers_at k i h).1, cube_at_lem i h) nought_made

  choice_at_lem : (i : ℕ) → i < k → choice_at (zeros k) (empties k) i ≡ reach empty no_notes
  unfolding choice_at
  choice_at_lem i h = rw ((numbers_at k i h).0, (numbers_at k i h).1, cube_at_lem i h) nought_empty

  pub long : length (zeros k) ≡ 8 * k
  long = length-replicate (8 * k) plus_zero

  pub many : cubes (zeros k) ≡ k
  many =
      let l = long in
      omega arith

  agreed : lengths_agree (zeros k) (empties k) ≡ true
  unfolding lengths_agree
  agreed =
      let l = long in
      let n = numbers_length k in
      rw (eq-eqb (length (zeros k) % 8) 0 (omega arith), eq-eqb (length (empties k) % 2) 0 (omega arith), eq-eqb (cubes (zeros k)) (length (empties k) / 2) (omega arith))

pub any_number_lem : (k : ℕ) (ys : List ℕ) → width * k ≤ length ys
    → (result_of (zeros k) (empties k) (length ys) ≡ done) × (answers_of (zeros k) (empties k) ys ≡ replicate (width * k) 0 ++ drop (width * k) ys)
unfolding result_of answers_of
any_number_lem k ys room =
    let xs = zeros k in
    let ns = empties k in
    empty_list (refusal_at xs ns) (choice_at xs ns) k (made_at k) (choice_at_lem k) ys room (lengths_agree xs ns) (cubes xs) (agreed k) (many k)
