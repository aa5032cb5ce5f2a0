-- Rows one after another. Assumes nothing.
use mathlib.Core.Path.{◌≡◌, refl, sym, ap, ◌∙◌}
use mathlib.Core.List.{List, ◌++◌, append_assoc}
use Prim.Native.Nat.{ℕ, zero, suc, ◌+◌, ◌*◌, ◌≤◌, ◌<◌}
use native.Mathlib.Nat.{not-suc-le-zero}
use native.Mathlib.Numerals.{add-one}
use native.Mathlib.Omega.{arith}
use lib.Dec.{ltb}
use lib.ListN.{length, length-append}
use borrow.Author.Tests.{ltb-true, ltb-false}
use borrow.Table.Steps.{cases}
use Rattle.tilings.specs.Plan.{Reached}
use Rattle.put.specs.Placed.{placed}
use Rattle.put.proofs.Placed.{placed_length, placed_after}
use Rattle.rows.specs.Rows.{width, bytes_of}
use Rattle.rows.specs.declared.Row.{Row}
use Rattle.rows.specs.Results.{bytes_in}
use Rattle.rows.specs.Parts.{block}
use Rattle.rows.proofs.Parts.{block_append}
use Rattle.rows.proofs.Rows.{bytes_length}
use Rattle.list.specs.Lists.{rows_of}

module _ (choice : ℕ → Reached) where
  pub rows_length : (k : ℕ) → length (rows_of choice k) ≡ width * k
  unfolding rows_of
  rows_length zero = refl
  rows_length (suc k) =
      let l = length-append (rows_of choice k) (bytes_of (choice k)) in
      let row = bytes_length (choice k) in
      let e = rows_length k in
      omega arith

  -- each at its cube's place, whatever follows them
  last_in_place : (k : ℕ) (rest : List ℕ) (i : ℕ) → i ≡ k → block width (rows_of choice k ++ (bytes_of (choice k) ++ rest)) i ≡ bytes_of (choice i)
  last_in_place k rest i e =
      let row = bytes_of (choice k) in
      ap (block width (rows_of choice k ++ (row ++ rest))) e
      ∙ block_append width (rows_of choice k) row rest k (rows_length k) (bytes_length (choice k))
      ∙ ap (λ (j : ℕ). bytes_of (choice j)) (sym e)

  pub in_place : (n : ℕ) (rest : List ℕ) (i : ℕ) → i < n → block width (rows_of choice n ++ rest) i ≡ bytes_of (choice i)
  unfolding rows_of
  in_place zero rest i h = absurd (not-suc-le-zero h)
  in_place (suc k) rest i h =
      let row = bytes_of (choice k) in
      ap (λ (ys : List ℕ). block width ys i) (append_assoc (rows_of choice k) row rest)
      ∙ cases (ltb i k)
      (λ before. in_place k (row ++ rest) i (ltb-true i k before))
      (λ here. let last = ltb-false i k here in last_in_place k rest i (omega arith))

  -- a turn of the loop that puts the rows
  pub rows_again : (before ys zs : List ℕ) (i : ℕ) (r : Row) → width * i + width ≤ length before → length ys ≡ length before → ys ≡ placed before 0 (rows_of choice i)
      → bytes_in r ≡ bytes_of (choice i) → zs ≡ placed ys (width * i) (bytes_in r)
      → (length zs ≡ length before) × (zs ≡ placed before 0 (rows_of choice (i + 1)))
  unfolding rows_of
  rows_again before ys zs i r h long e f g =
      let rows = rows_length i in
      let row = bytes_length (choice i) in (
        ap length g ∙ placed_length ys (width * i) (bytes_in r) (omega arith) ∙ long,
        placed_after before 0 (rows_of choice i) ys (width * i) (bytes_of (choice i)) zs (omega arith) (omega arith) e (g ∙ ap (placed ys (width * i)) f)
            ∙ ap (λ (k : ℕ). placed before 0 (rows_of choice k)) (sym (add-one i)),
      )
