-- `signs::choose_signs` says what `front_of` does, with the laws of the faces that are tested and of the picks.
use Rattle.signs.proofs.Known.{said_refused, said_made}
use Rattle.signs.proofs.Asked.{asked_rightly}
use Rattle.signs.proofs.Unmatched.{eight_fit, none_chosen}
use Rattle.signs.proofs.choose_signs.Goals as goal

pub returns-then-not-all_finite-clause-choice : goal.returns-then-not-all_finite-clause-choice
returns-then-not-all_finite-clause-choice c = said_refused _ _ c.all_finite.ensures c.if-not-all_finite.true

pub returns-then-not-all_finite-clause-asked : goal.returns-then-not-all_finite-clause-asked
returns-then-not-all_finite-clause-asked c = asked_rightly

pub returns-clause-choice : goal.returns-clause-choice
returns-clause-choice c = said_made _ _ c.all_finite.ensures c.if-not-all_finite.false _ c.choose_finite.ensures.choice

pub returns-clause-asked : goal.returns-clause-asked
returns-clause-asked c = asked_rightly

-- each corner is an f32, so binary32 holds its value
pub returns-clause-unmatched : goal.returns-clause-unmatched
returns-clause-unmatched c =
    let h = c.well_formed.0.1.1 in
    let fit = eight_fit c.args.q h.0.1 h.1.0.1 h.1.1.0.1 h.1.1.1.0.1 h.1.1.1.1.0.1 h.1.1.1.1.1.0.1 h.1.1.1.1.1.1.0.1 h.1.1.1.1.1.1.1.0.1 in
    none_chosen c.args.q fit _ c.all_finite.ensures c.if-not-all_finite.false _ c.choose_finite.ensures.choice
