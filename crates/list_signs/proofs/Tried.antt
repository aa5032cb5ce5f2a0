-- The tries of `Tries`: its lists by `Controls`, any number of cubes by `Empties`. Assumes nothing.
use mathlib.Core.Path.{◌∙◌}
use Rattle.list_signs.specs.Lists.{answers_of}
use Rattle.list_signs.specs.Tries.{Try, tries, values, ListTries}
use Rattle.list_signs.proofs.Controls.{outcomes_hold, answers_hold}
use Rattle.list_signs.proofs.Empties.{any_number_lem}
use Rattle.list_signs.proofs.Tabled.{answers_tabled, answers_same, map_same}

pub tries_hold : ListTries
tries_hold = record {
  outcomes = outcomes_hold;
  answers = map_same (λ (t : Try). answers_of (values t) t.answers) (λ t. answers_tabled (values t) t.answers) (λ t. answers_same (values t) t.answers) tries ∙ answers_hold;
  any_number = any_number_lem;
}
