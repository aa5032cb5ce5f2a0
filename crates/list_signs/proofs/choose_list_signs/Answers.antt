-- `list_signs::choose_list_signs` comes to what `choose_by` does. Assumes nothing.
use mathlib.Core.Path.{ap, ◌∙◌}
use Rattle.rows.specs.Rows.{Result}
use Rattle.list.specs.Lists.{cubes, rows_of, answers_by}
use Rattle.list_signs.specs.Lists.{choice_at, result_of, answers_of}
use Rattle.list_signs.proofs.Numbers.{known}
use Rattle.list_signs.proofs.choose_list_signs.Goals as goal

pub returns-clause-outcome : goal.returns-clause-outcome
unfolding result_of
returns-clause-outcome c = c.choose_by.ensures.outcome

pub returns-clause-answers : goal.returns-clause-answers
unfolding result_of answers_of
returns-clause-answers c =
    let s = c.args in
    let rows = rows_of (choice_at s.corners.now) (cubes s.corners.now) in
    c.choose_by.ensures.answers ∙ ap (λ (r : Result). answers_by r rows s.answers.now) c.choose_by.ensures.outcome

pub returns-clause-refusals : goal.returns-clause-refusals
unfolding result_of
returns-clause-refusals c =
    rw c.choose_by.ensures.outcome (known c.args.corners.now _)
