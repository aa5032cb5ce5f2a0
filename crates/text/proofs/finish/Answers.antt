-- `text::finish` puts nothing where the input ends with a line. Assumes nothing.
use Rattle.std.proofs.Common.{sym, append-nil}
use Rattle.text.proofs.Ends.{ends_whole}
use Rattle.text.proofs.finish.Goals as goal

pub returns-then-is_empty-number-clause-text : goal.returns-then-is_empty-number-clause-text
returns-then-is_empty-number-clause-text g c = rw (ends_whole _ _ _ c.is_empty.ensures c.if-is_empty-number.true) (sym (append-nil _))
