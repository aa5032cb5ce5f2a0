-- `scan::find` is `index_of` in the slice, by what `memchr` says of it. Assumes nothing.
use Rattle.std.proofs.Common.{rules}
use Rattle.scan.proofs.First.{place_of_first}
use Rattle.scan.proofs.find.Goals as goal

pub returns-clause-place : goal.returns-clause-place
returns-clause-place c = place_of_first c.args.b c.args.from c.args.to c.args.bytes.now _ _ c.requires.0 c.requires.1 c.memchr.ensures (search rules)
