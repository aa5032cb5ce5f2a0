-- `face::join` is the rule.
use borrow.Author.Rules.{rules}
use Rattle.face.proofs.Ties.{by_tie, by_sign}
use Rattle.face.proofs.join.Goals as goal

pub returns-then-abs-epsilon : goal.returns-then-abs-epsilon
returns-then-abs-epsilon c = by_tie _ _ _ _ _ _ (search rules) c.abs.ensures.value c.if-abs-epsilon.true

pub returns : goal.returns
returns c = by_sign _ _ _ _ _ _ (search rules) c.abs.ensures.value c.if-abs-epsilon.false
