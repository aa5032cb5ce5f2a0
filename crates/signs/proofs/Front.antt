-- The front answers as `handle_cube` does for the family of the cube's set, so its readings are few. Assumes nothing.
use mathlib.Core.Path.{◌≡◌, refl, sym, ap, ◌∙◌}
use mathlib.Core.Bool.{Bool, true, false, cond}
use Prim.Native.Nat.{ℕ, ◌≤◌}
use lib.Dec.{eqb}
use Rattle.cube.specs.declared.Cube.{Cube}
use Rattle.cube.specs.Corners.{all_finite}
use Rattle.tilings.specs.Plan.{Reached}
use Rattle.choice.specs.Choice.{nat_of, Said, made, refused, readings_in, answer_of}
use Rattle.choice.proofs.Ranges.{ranges, few_in}
use Rattle.signs.specs.Sets.{set_of}
use Rattle.signs.specs.Rule.{family_of}
use Rattle.signs.specs.Front.{choice_for, front_of}
use Rattle.signs.proofs.Known.{by_corners}

by_finite : (b : Bool) (r : Reached) → cond b (made r) (refused 3) ≡ (let n : ℕ = cond b 0 3 in cond (eqb n 0) (made r) (refused n))
by_finite true r = refl
by_finite false r = refl

module _ (q : Cube) where
  abbrev answer : Said
  answer = let f = family_of (set_of q) in answer_of f.case f.configuration q

  front_answers : front_of q ≡ answer
  unfolding front_of answer_of
  front_answers = by_finite (all_finite q) (choice_for q) ∙ ap (λ (n : ℕ). cond (eqb n 0) (made (choice_for q)) (refused n)) (sym (by_corners q))

  pub few_in_front : readings_in (front_of q) ≤ 7
  few_in_front =
      let f = family_of (set_of q) in
      rw front_answers (few_in (nat_of f.case) answer (ranges f.case f.configuration q))
