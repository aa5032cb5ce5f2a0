-- `signs::choose_finite` chooses for the family of the set: a known one, so nothing is refused.
use Rattle.signs.proofs.Known.{not_refused, chosen_so}
use Rattle.signs.proofs.choose_finite.Goals as goal

pub choose_tested-requires : goal.choose_tested-requires
choose_tested-requires c = not_refused _ _ _ c.corner_set.ensures.set c.family_of-family.ensures.rule c.requires

pub returns-clause-choice : goal.returns-clause-choice
returns-clause-choice c = chosen_so _ _ _ c.corner_set.ensures.set c.family_of-family.ensures.rule _ c.choose_tested.ensures.choice
