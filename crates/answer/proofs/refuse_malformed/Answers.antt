-- `answer::refuse_malformed` puts the line of refusal 8. Assumes nothing.
use Rattle.answer.specs.Answer.{printed}
use Rattle.answer.proofs.refuse_malformed.Goals as goal

pub returns-clause-text : goal.returns-clause-text
unfolding printed
returns-clause-text g c = c.put_malformed.ensures.text
