use Rattle.std.proofs.Common.{◌≡◌, refl, sym, ap, ◌∙◌, Ok, arith, rules}
use Rattle.mc33.proofs.Running.{at_start, same_part, one_turn, last_turn, all_used}
use Rattle.mc33.proofs.Streams.run.Goals as goal

pub loop-turns-init : goal.loop-turns-init
loop-turns-init g c = (omega arith, at_start _ _ refl refl)

pub invariant_of-part : goal.invariant_of-part
invariant_of-part g c = record { short = c.loop-turns.invariant.0 }

pub returns-in_err-next : goal.returns-in_err-next
returns-in_err-next g c =
    let l = c.loop-turns in
    let e : c.from_residual.result ≡ c.turn.result = search rules in
    last_turn l._turns l.part.0 l.part.1.0 l.invariant.0 c.turn.result l.buf c.turn.new.buf c.turn.new.out.items l.invariant.1 c.turn.ensures _ e (grind arith)

pub returns-in-None : goal.returns-in-None
returns-in-None g c =
    let l = c.loop-turns in
    last_turn l._turns l.part.0 l.part.1.0 l.invariant.0 c.turn.result l.buf c.turn.new.buf c.turn.new.out.items l.invariant.1 c.turn.ensures _ (sym (c.in_ok-next.was ∙ ap Ok c.in-None.is)) refl

pub loop-turns-preserved : goal.loop-turns-preserved
loop-turns-preserved g c =
    let l = c.loop-turns in
    (c.in-Some.next.short, one_turn l._turns l.part.0 l.part.1.0 l.invariant.0 c.turn.result l.buf c.turn.new.buf c.turn.new.out.items l.invariant.1 c.turn.ensures _ (sym (c.in_ok-next.was ∙ ap Ok c.in-Some.is)))

pub invariant_of-part-2 : goal.invariant_of-part-2
invariant_of-part-2 g c = record { short = c.loop-turns.invariant.0 }

pub returns : goal.returns
returns g c =
    let l = c.loop-turns in
    all_used l._turns _ _ (omega arith) (same_part l._turns l.part.0 l.part.1.0 l.invariant.0 _ l.buf l.invariant.1)
