-- `choice::handle_cube` answers what `answer_of` does, in the ranges; the starred cubes; that no inner number leaves its table; and that none or all of the picks are
-- without a match.
use mathlib.Core.Path.{◌≡◌, subst, sym, ◌∙◌}
use lib.Dec.{T}
use lib.IntN.{ℤ}
use Rattle.cube.specs.declared.Cube.{Cube}
use Rattle.choice.specs.Choice.{nat_of, Said, answer_of}
use Rattle.choice.specs.Ranges.{said_in_ranges}
use Rattle.choice.proofs.Families.{one_of_its, by_refusal, by_corners, by_nothing, by_plan_lem}
use Rattle.choice.proofs.Ranges.{ranges}
use Rattle.choice.proofs.handle_cube.Goals as goal

in_ranges : (x y : ℤ) (q : Cube) (r : Said) → r ≡ answer_of x y q → T (said_in_ranges (nat_of x) r)
in_ranges x y q r e = subst (λ (s : Said). T (said_in_ranges (nat_of x) s)) (sym e) (ranges x y q)

pub choose-requires : goal.choose-requires
choose-requires c = search (one_of_its, c.in_ok-family.was)

pub choose_plain-requires : goal.choose_plain-requires
choose_plain-requires c = (search (one_of_its, c.in_ok-family.was), sym c.asks.ensures ∙ c.if-asks.false)

pub returns-in_err-family-clause-choice : goal.returns-in_err-family-clause-choice
returns-in_err-family-clause-choice c = search (by_refusal, c.in_err-family.was, c.from_residual.ensures.1)

pub returns-in_err-family-clause-ranges : goal.returns-in_err-family-clause-ranges
returns-in_err-family-clause-ranges c = in_ranges _ _ _ _ (returns-in_err-family-clause-choice c)

pub returns-then-not-all_finite-clause-choice : goal.returns-then-not-all_finite-clause-choice
returns-then-not-all_finite-clause-choice c = search (by_corners, c.in_ok-family.was)

pub returns-then-not-all_finite-clause-ranges : goal.returns-then-not-all_finite-clause-ranges
returns-then-not-all_finite-clause-ranges c = in_ranges _ _ _ _ (returns-then-not-all_finite-clause-choice c)

pub returns-in-Nothing-clause-choice : goal.returns-in-Nothing-clause-choice
returns-in-Nothing-clause-choice c = search (by_nothing, c.in_ok-family.was)

pub returns-in-Nothing-clause-ranges : goal.returns-in-Nothing-clause-ranges
returns-in-Nothing-clause-ranges c = in_ranges _ _ _ _ (returns-in-Nothing-clause-choice c)

pub returns-then-asks-clause-choice : goal.returns-then-asks-clause-choice
returns-then-asks-clause-choice c = search (by_plan_lem, c.in_ok-family.was)

pub returns-then-asks-clause-ranges : goal.returns-then-asks-clause-ranges
returns-then-asks-clause-ranges c = in_ranges _ _ _ _ (returns-then-asks-clause-choice c)

pub returns-else-asks-clause-choice : goal.returns-else-asks-clause-choice
returns-else-asks-clause-choice c = search (by_plan_lem, c.in_ok-family.was)

pub returns-else-asks-clause-ranges : goal.returns-else-asks-clause-ranges
returns-else-asks-clause-ranges c = in_ranges _ _ _ _ (returns-else-asks-clause-choice c)
