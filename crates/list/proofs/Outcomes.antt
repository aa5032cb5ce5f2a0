-- What a list comes to, and its answer bytes, from the tests as the code makes them. Assumes nothing.
use mathlib.Core.Path.{◌≡◌, refl, sym, ap, ◌∙◌}
use mathlib.Core.Bool.{Bool, true, false, cond}
use mathlib.Core.List.{List, ◌++◌}
use Prim.Native.Nat.{ℕ, ◌*◌, ◌≤◌, ◌<◌}
use native.Mathlib.Nat.{zero-add}
use lib.Dec.{leb}
use lib.ListN.{length, drop}
use borrow.Author.Tests.{le-leb, lt-leb}
use Rattle.std.specs.Prelude as std
use Rattle.std.specs.Prelude.{Ok, Err, IsErrAnd}
use Rattle.tilings.specs.Plan.{Reached}
use Rattle.put.specs.Placed.{placed}
use Rattle.rows.specs.Rows.{width, Result, done, refused_at}
use Rattle.rows.specs.declared.ListRefused.{ListRefused}
use Rattle.rows.specs.Results.{outcome_result}
use Rattle.rows.specs.Parts.{block}
use Rattle.list.specs.Lists.{first_from, result_by, rows_of, answers_by, InPlace}
use Rattle.list.proofs.Rows.{in_place}

-- n cubes, by the refusal and the choice of each
module _ (refusal : ℕ → ℕ) (choice : ℕ → Reached) (n : ℕ) (agree : Bool) (ys : List ℕ) where
  abbrev result : Result
  result = result_by agree n (length ys) refusal

  -- what `choose_by` promises of them
  abbrev Promised : Result → List ℕ → Type 0
  Promised r zs = (r ≡ result) × (zs ≡ answers_by r (rows_of choice n) ys) × (r ≡ done → InPlace choice n zs)

  stands : (r : Result) (zs : List ℕ) → zs ≡ answers_by r (rows_of choice n) ys → r ≡ done → InPlace choice n zs
  stands r zs f e i h =
      let rows = rows_of choice n in
      ap (λ (us : List ℕ). block width us i) (f ∙ ap (λ (r : Result). answers_by r rows ys) e) ∙ in_place choice n _ i h

  promised : (r : Result) (zs : List ℕ) → r ≡ result → zs ≡ answers_by r (rows_of choice n) ys → Promised r zs
  promised r zs e f = (e, f, stands r zs f)

  -- by the two tests
  tested : (b d : Bool) → agree ≡ b → leb (width * n) (length ys) ≡ d → cond b (cond d (first_from refusal n 0) (refused_at 7 0)) (refused_at 6 0) ≡ result
  unfolding result_by
  tested b d e f = rw (sym e, sym f)

  pub not_agreed : agree ≡ false → Promised (refused_at 6 0) ys
  not_agreed e = promised (refused_at 6 0) ys (tested false (leb (width * n) (length ys)) e refl) refl

  module _ (passed : agree ≡ true) where
    pub no_room : length ys < width * n → Promised (refused_at 7 0) ys
    no_room h = promised (refused_at 7 0) ys (tested true false passed (lt-leb (width * n) (length ys) h)) refl

    module _ (room : width * n ≤ length ys) where
      first : first_from refusal n 0 ≡ result
      first = tested true true passed (le-leb (width * n) (length ys) room)

      pub all_done : done ≡ first_from refusal n 0 → (zs : List ℕ) → zs ≡ placed ys 0 (rows_of choice n) → Promised done zs
      unfolding placed
      all_done e zs g =
          let rows = rows_of choice n in
          promised done zs (e ∙ first) (g ∙ ap (λ (k : ℕ). rows ++ drop k ys) (zero-add (length rows)))

      -- r is what goes out of the function with the first refused cube
      pub one_refused : (w : ListRefused) → outcome_result (Err w) ≡ first_from refusal n 0
          → (r : std.Result (Unit {0}) ListRefused) → IsErrAnd r (λ z. z ≡ w) → Promised (outcome_result r) ys
      one_refused w e (Ok u) h = absurd h
      one_refused w e (Err z) h = promised (outcome_result (Err z)) ys (ap (λ z. outcome_result (Err z)) h ∙ e ∙ first) refl
