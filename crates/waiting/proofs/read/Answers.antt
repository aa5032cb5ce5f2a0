-- What one call of the closure did.
use Rattle.std.proofs.Common.{rules, arith, sym}
use Rattle.waiting.proofs.Retries.{retried, DidRead, read_more}
use Rattle.waiting.proofs.read.Goals as goal

pub returns : goal.returns
returns g c =
    let h = retried _ (DidRead (λ f. f.0.ghost_name) (λ f. f.1.ghost_name) (λ f. g.R.Read.remaining f.0.now) (λ f. f.1.now)) (λ f r h s. record { same = search rules; same_room = search rules; same_length = search rules; moved = search rules; bytes = search rules }) read_more c.retry.ensures in
    let lent = sym h.same in
    let lent_room = sym h.same_room in
    let moved = h.moved in
    let bytes = h.bytes in
    record { moved = grind (arith, moved); bytes = grind (arith, bytes, lent, lent_room) }
