-- What one call of the closure did.
use Rattle.std.proofs.Common.{rules, arith, sym}
use Rattle.waiting.proofs.Retries.{retried, DidWrite, write_more}
use Rattle.waiting.proofs.write.Goals as goal

pub returns : goal.returns
returns g c =
    let h = retried _ (DidWrite (λ f. f.0.ghost_name) (λ f. g.W.Write.contents f.0.now) (λ f. f.1.now)) (λ f r h s. record { same = search rules; same_text = search rules; moved = search rules; bytes = search rules }) write_more c.retry.ensures in
    let lent = sym h.same in
    let moved = h.moved in
    let bytes = h.bytes in
    record { moved = grind (arith, moved); bytes = grind (arith, bytes, lent) }
