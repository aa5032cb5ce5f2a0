-- `answer::answer_names` puts the reply to line 1. Assumes nothing.
use Rattle.std.proofs.Common.{ℕ, ap, refl, arith, length, length-append}
use Rattle.answer.specs.Answer.{output_names, printed}
use Rattle.answer.proofs.Lines.{names_reply, no_names_reply, names_length}
use Rattle.answer.proofs.answer_names.Goals as goal

pub returns-then-not-is_names : goal.returns-then-not-is_names
returns-then-not-is_names g c =
    let put = c.refuse_malformed.ensures in
    rw (no_names_reply _ _ c.requires.1 _ c.is_names.ensures c.if-not-is_names.true)
    (record { text = put.text; end = put.end; room = (put.room, λ n. absurd (cc)) })

pub returns : goal.returns
unfolding output_names printed
returns g c =
    let named = c.if-not-is_names.false in
    let long = names_length c.args.number _ _ c.is_names.ensures named in
    rw (names_reply _ _ c.requires.1 _ c.is_names.ensures named)
    (record {
      text = c.bytes.ensures;
      end = refl;
      room = (omega (arith, ap length c.bytes.ensures, length-append {A = ℕ}), λ _. omega (arith, long, ap length c.bytes.ensures, length-append {A = ℕ}));
    })
