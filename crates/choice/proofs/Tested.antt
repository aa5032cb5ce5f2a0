-- What it tells that a choice is not refused: the family is known, and the choice is its plan's. `to_z w8 (of_z w8 z)` is how code reads z. Assumes nothing.
use mathlib.Core.Path.{◌≡◌, sym, ap, ◌∙◌, subst}
use mathlib.Core.Bool.{◌&&◌}
use Prim.Native.Nat.{ℕ, ◌≤◌, ◌<◌}
use native.Mathlib.Nat.{suc-ne-zero}
use lib.IntN.{ℤ, pos, negsuc}
use lib.Dec.{leb, ltb, eqb, ltb→lt}
use lib.ListN.{get_or}
use Rattle.std.specs.Prelude.{Result, Ok, Err}
use lib.Ieee.Fits.{and_l}
use mir.Syntax.{w8}
use mir.Val.{SFits, to_z, of_z}
use Rattle.cube.specs.declared.Cube.{Cube}
use Rattle.cube.specs.Signs.{split_value}
use Rattle.cube.proofs.Signs.{taken}
use Rattle.cube.specs.Corners.{all_finite}
use Rattle.notes.specs.Notes.{no_notes}
use Rattle.tilings.specs.Tilings.{configurations}
use Rattle.tilings.specs.Plan.{empty, Reached, reach, run}
use Rattle.tilings.specs.Answers.{answers_of}
use Rattle.families.specs.Plans.{plan_of}
use Rattle.choice.specs.Choice.{nat_of, refusal_of, choice_of}
use Rattle.choice.proofs.Families.{no_plan}
use Rattle.choice.proofs.Ranges.{passed, choice_in, few_unsettled, few_readings_lem}

-- what is chosen leaves few unsettled, and made few readings
pub with_few : (x y : ℤ) (q : Cube) → refusal_of x y q ≡ 0 → (t : Reached) → t ≡ choice_of x y q
    → (t ≡ choice_of x y q) × ((t.notes.unsettled ≤ 3) × (t.notes.readings ≤ 7))
with_few x y q e t i =
    let within = choice_in x y q e in
    (i, rw i (few_unsettled (nat_of x) (choice_of x y q) within, few_readings_lem (nat_of x) (choice_of x y q) within))

module _ (q : Cube) where
  its_own : (k c : ℕ) → refusal_of (pos k) (pos c) q ≡ 0 → c < get_or configurations k 0
  unfolding refusal_of
  its_own k c e = ltb→lt c (get_or configurations k 0) (passed (leb k 14) (ltb c (get_or configurations k 0)) (all_finite q) e).1

  nothing_else : (k c : ℕ) → refusal_of (pos k) (negsuc c) q ≡ 0 → reach empty no_notes ≡ choice_of (pos k) (negsuc c) q
  unfolding refusal_of choice_of run
  nothing_else k c e =
      ap (λ p. run (answers_of q) p no_notes) (sym (no_plan k (and_l (eqb k 0) (eqb c 0) (passed (leb k 14) (eqb k 0 && eqb c 0) (all_finite q) e).1)))

  no_such : (k : ℕ) (y : ℤ) → refusal_of (negsuc k) y q ≡ 0 → ⊥
  unfolding refusal_of
  no_such k y e = suc-ne-zero 0 e

  module _ (x y : ℤ) (e : refusal_of x y q ≡ 0) (r : Result ℕ ℕ) (fx : SFits w8 x) (ex : split_value r ≡ to_z w8 (of_z w8 x)) where
    pub no_case : (k : ℕ) → r ≡ Err k → (t : Reached) → t ≡ choice_of x y q
    no_case k g t = absurd (no_such k y (subst (λ (z : ℤ). refusal_of z y q ≡ 0) (taken x r fx ex (Err k) g) e))

    module _ (s : Result ℕ ℕ) (fy : SFits w8 y) (ey : split_value s ≡ to_z w8 (of_z w8 y)) where
      -- the case and the configuration taken apart
      apart : (v w : Result ℕ ℕ) → r ≡ v → s ≡ w → choice_of x y q ≡ choice_of (split_value v) (split_value w) q
      apart v w g h = rw (taken x r fx ex v g, taken y s fy ey w h)

      apart_made : (v w : Result ℕ ℕ) → r ≡ v → s ≡ w → refusal_of (split_value v) (split_value w) q ≡ 0
      apart_made v w g h = rw (← taken x r fx ex v g, ← taken y s fy ey w h) e

      module _ (k c : ℕ) (g : r ≡ Ok k) where
        pub room : s ≡ Ok c → c < get_or configurations k 0
        room h = its_own k c (apart_made (Ok k) (Ok c) g h)

        pub plan_chosen : s ≡ Ok c → (t : Reached) → t ≡ run (answers_of q) (plan_of k c) no_notes → t ≡ choice_of x y q
        unfolding choice_of
        plan_chosen h t i = i ∙ sym (apart (Ok k) (Ok c) g h)

        pub nothing_chosen : s ≡ Err c → (t : Reached) → t ≡ reach empty no_notes → t ≡ choice_of x y q
        nothing_chosen h t i = i ∙ nothing_else k c (apart_made (Ok k) (Err c) g h) ∙ sym (apart (Ok k) (Err c) g h)
