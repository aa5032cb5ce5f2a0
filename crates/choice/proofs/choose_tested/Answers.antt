-- `choice::choose_tested` chooses what `choice_of` does where nothing is refused, with few unsettled and few readings.
use mathlib.Core.Path.{sym, ◌∙◌}
use Rattle.choice.proofs.Tested.{with_few, room, plan_chosen, nothing_chosen, no_case}
use Rattle.choice.proofs.choose_tested.Goals as goal
use Rattle.choice.proofs.choose_tested.Goals.{in_default-via-in-Ok+in_default, in_default-via-in_default}

pub choose-requires : goal.choose-requires
choose-requires c = search room

pub choose_plain-requires : goal.choose_plain-requires
choose_plain-requires c = (search room, sym c.asks.ensures ∙ c.if-asks.false)

pub returns-then-asks-clause-choice : goal.returns-then-asks-clause-choice
returns-then-asks-clause-choice c = search plan_chosen

pub returns-then-asks-clause-few : goal.returns-then-asks-clause-few
returns-then-asks-clause-few c = (with_few _ _ _ c.requires _ (returns-then-asks-clause-choice c)).1

pub returns-else-asks-clause-choice : goal.returns-else-asks-clause-choice
returns-else-asks-clause-choice c = search plan_chosen

pub returns-else-asks-clause-few : goal.returns-else-asks-clause-few
returns-else-asks-clause-few c = (with_few _ _ _ c.requires _ (returns-else-asks-clause-choice c)).1

pub returns-in_default-clause-choice : goal.returns-in_default-clause-choice
returns-in_default-clause-choice c = elim c.in_default.branch [
  | in_default-via-in-Ok+in_default w ↦ search nothing_chosen
  | in_default-via-in_default w ↦ search no_case
]

pub returns-in_default-clause-few : goal.returns-in_default-clause-few
returns-in_default-clause-few c = (with_few _ _ _ c.requires _ (returns-in_default-clause-choice c)).1
