-- `answer::put_refused` puts `refused_line`. Assumes nothing.
use Rattle.std.proofs.Common.{rules, arith, ℕ, ap, length, length-append}
use Rattle.put.proofs.Digits.{decimal_long}
use Rattle.answer.specs.Answer.{refused_word}
use Rattle.answer.proofs.Joined.{refused_put}
use Rattle.answer.proofs.put_refused.Goals as goal

pub decimal-requires : goal.decimal-requires
decimal-requires g c = (search rules, omega (arith, ap length c.bytes.ensures, length-append {A = ℕ}, c.put_field.ensures.room, decimal_long c.args.number (omega arith)))

pub push-requires : goal.push-requires
push-requires g c = (search rules, omega (arith, ap length c.decimal.ensures, ap length c.bytes.ensures, length-append {A = ℕ}, c.put_field.ensures.room, decimal_long c.args.number (omega arith)))

pub returns-clause-text : goal.returns-clause-text
unfolding refused_word
returns-clause-text g c = refused_put _ _ _ _ _ _ _ c.bytes.ensures (rw c.number.ensures.number at c.put_field.ensures.text) c.decimal.ensures c.push.ensures.items

pub returns-clause-room : goal.returns-clause-room
returns-clause-room g c = omega (arith, ap length c.push.ensures.items, ap length c.decimal.ensures, ap length c.bytes.ensures, length-append {A = ℕ}, c.put_field.ensures.room, decimal_long c.args.number (omega arith))
