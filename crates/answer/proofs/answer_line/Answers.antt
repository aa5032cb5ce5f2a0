-- `answer::answer_line` puts the reply to a line. Assumes nothing.
use Rattle.std.proofs.Common.{arith, ◌<◌}
use Rattle.answer.proofs.Replies.{bare_lines}
use Rattle.answer.proofs.Lines.{later_reply}
use Rattle.answer.proofs.answer_line.Goals as goal

pub returns-then-number-le1 : goal.returns-then-number-le1
returns-then-number-le1 g c =
    let put = c.answer_names.ensures in
    record { text = put.text; end = put.end; room = (put.room.0, λ n. (put.room.1 n, λ (later : 1 < c.args.number). omega (arith, c.if-number-le1.true))); bare = bare_lines }

pub returns-in-Some : goal.returns-in-Some
returns-in-Some g c =
    let put = c.print_choice.ensures in
    let reply = rw c.in-Some.is at c.cube_answer.ensures.reply in
    let long = rw c.in-Some.is at c.cube_answer.ensures.long in
    rw (later_reply _ _ c.if-number-le1.false _ reply)
    (record {
      text = put.text;
      end = put.end;
      room = (put.room.0, λ n. let short = put.room.1 n in (omega arith, λ _. omega arith));
      bare = bare_lines;
    })

pub returns-in-None : goal.returns-in-None
returns-in-None g c =
    let put = c.refuse_malformed.ensures in
    let reply = rw c.in-None.is at c.cube_answer.ensures.reply in
    rw (later_reply _ _ c.if-number-le1.false _ reply)
    (record { text = put.text; end = put.end; room = (put.room, λ n. absurd (cc)); bare = bare_lines })
