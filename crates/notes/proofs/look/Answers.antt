-- `notes::look` is `look_of`.
use Rattle.notes.proofs.Looks.{noted}
use Rattle.notes.proofs.look.Goals as goal

pub returns : goal.returns
returns c = noted c.args.unsettled c.args.matched
