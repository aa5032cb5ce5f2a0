-- `list::choose_list` comes to what `choose_by` does. Assumes nothing.
use mathlib.Core.Path.{ap, ◌∙◌}
use Rattle.rows.specs.Rows.{choice_at, Result}
use Rattle.list.specs.Lists.{cubes, lengths_agree, rows_of, answers_by, result_of, answers_of}
use Rattle.list.proofs.choose_list.Goals as goal

pub returns-clause-outcome : goal.returns-clause-outcome
unfolding lengths_agree result_of
returns-clause-outcome c = c.choose_by.ensures.outcome

pub returns-clause-answers : goal.returns-clause-answers
unfolding lengths_agree result_of answers_of
returns-clause-answers c =
    let s = c.args in
    let rows = rows_of (choice_at s.corners.now s.numbers.now) (cubes s.corners.now) in
    c.choose_by.ensures.answers ∙ ap (λ (r : Result). answers_by r rows s.answers.now) c.choose_by.ensures.outcome
