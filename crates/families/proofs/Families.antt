-- The case that a match has found: its configurations and its plan. Assumes nothing.
use mathlib.Core.Path.{◌≡◌, refl, sym, ap, subst, ◌∙◌}
use mathlib.Core.Bool.{Bool, false, cond}
use mathlib.Core.List.{List, [], ◌∷◌}
use Prim.Native.Nat.{ℕ, zero, suc, ◌<◌, ◌≤◌}
use native.Mathlib.Nat.{lt_of_not-le, not-suc-le-zero}
use native.Mathlib.Omega.{arith}
use borrow.Author.Tests.{ne_eqb}
use lib.ListN.{get_or, get_or-eq_default}
use Rattle.cube.specs.declared.Cube.{Cube}
use Rattle.cube.proofs.Table.{agree, NoneFrom, past_all}
use Rattle.notes.specs.Notes.{no_notes}
use Rattle.tilings.specs.Tilings.{configurations, tilings_of, first_tiling, is_one_of, has_centre}
use Rattle.tilings.specs.Plan.{tiling, Reached, reach, run}
use Rattle.tilings.specs.Answers.{answers_of}
use Rattle.families.specs.Plans.{asking, plans, plan_of}

module _ {case c : ℕ} where
  pub of_a_case : c < get_or configurations case 0 → case < 15
  unfolding configurations
  of_a_case h = lt_of_not-le (λ (l : 15 ≤ case). not-suc-le-zero (subst (λ (n : ℕ). c < n) (get_or-eq_default configurations 0 l) h))

  positive : c < get_or configurations case 0 → 0 < case
  unfolding configurations
  positive h = go case h
    where
      go : (k : ℕ) → c < get_or configurations k 0 → 0 < k
      go zero h = absurd (not-suc-le-zero h)
      go (suc k) h = omega arith

-- past case 14 there is no tiling, nor for case 0
pub no_first : (k : ℕ) → NoneFrom 1 14 k → 0 ≡ first_tiling k
unfolding first_tiling tilings_of
no_first zero h = refl
no_first (suc k) h = sym (ap (λ (codes : List ℕ). get_or codes 0 0) (get_or-eq_default tilings_of [] (past_all 1 14 (suc k) (omega arith) h)))

module _ (q : Cube) (c : ℕ) where
  abbrev by_plan : ℕ → Reached
  by_plan case = run (answers_of q) (plan_of case c) no_notes

  abbrev by_first : ℕ → Reached
  by_first case = reach (tiling (first_tiling case) c 0 (has_centre (first_tiling case))) no_notes

  unasked : (k : ℕ) → k < 15 → cond (is_one_of k (0 ∷ asking)) (by_plan k) (by_first k) ≡ by_plan k
  unfolding run plan_of plans first_tiling tilings_of
  unasked k h = agree (λ j. cond (is_one_of j (0 ∷ asking)) (by_plan j) (by_first j)) by_plan 15 refl k h

  -- a case of which c is a configuration is not case 0
  pub plainly : (case : ℕ) → c < get_or configurations case 0 → is_one_of case asking ≡ false
      → (code : ℕ) → code ≡ first_tiling case → reach (tiling code c 0 (has_centre code)) no_notes ≡ by_plan case
  plainly case h n code e =
      rw e (sym (ap (λ (b : Bool). cond b (by_plan case) (by_first case)) none) ∙ unasked case (of_a_case h))
    where
      nought : (case ≡ 0 → ⊥)
      nought e = let l = positive h in omega (arith, l, e)

      none : is_one_of case (0 ∷ asking) ≡ false
      none = rw (ne_eqb case 0 nought, n)

pub not_asking : (case : ℕ) → (case ≡ 3 → ⊥) → (case ≡ 4 → ⊥) → (case ≡ 6 → ⊥) → (case ≡ 7 → ⊥) → (case ≡ 10 → ⊥) → (case ≡ 12 → ⊥) → (case ≡ 13 → ⊥)
    → is_one_of case asking ≡ false
not_asking case n3 n4 n6 n7 n10 n12 n13 =
    rw (ne_eqb case 3 n3, ne_eqb case 4 n4, ne_eqb case 6 n6, ne_eqb case 7 n7, ne_eqb case 10 n10, ne_eqb case 12 n12, ne_eqb case 13 n13)
