-- `trust::trust_face` tells the face test's answer with its trust.
use Rattle.trust.proofs.Trusting.{by_answer}
use Rattle.trust.proofs.trust_face.Goals as goal

pub returns-clause-result : goal.returns-clause-result
returns-clause-result c = by_answer _ _ _ _ _ c.square_of.ensures c.in_ok-answer.ensures.answer c.trust_of-trust.ensures.trust
