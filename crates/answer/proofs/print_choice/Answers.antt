-- `answer::print_choice` puts the reply of an answer. Assumes nothing.
use Rattle.std.proofs.Common.{rules, arith, subst, refl, ◌≤◌}
use Rattle.std.specs.Prelude.{Result}
use Rattle.cube.specs.declared.Refusal.{Refusal}
use Rattle.tilings.specs.declared.Counted.{Counted}
use Rattle.choice.specs.Choice.{readings_in, said}
use Rattle.answer.specs.Answer.{printed}
use Rattle.answer.proofs.Replies.{made_reply, refused_reply}
use Rattle.answer.proofs.print_choice.Goals as goal

pub put_choice-requires : goal.put_choice-requires
put_choice-requires g c = (search rules, (omega (arith, c.requires.0), subst (λ (a : Result Counted Refusal). readings_in (said a) ≤ 255) c.in-Ok.is c.requires.1))

pub returns-in-Ok : goal.returns-in-Ok
unfolding printed
returns-in-Ok g c =
    let put = c.put_choice.ensures in
    rw (made_reply _ _ c.in-Ok.is) (record { text = put.text; end = refl; room = (omega arith, λ _. put.room) })

pub returns-in-Err : goal.returns-in-Err
unfolding printed
returns-in-Err g c =
    let put = c.put_refused.ensures in
    rw (refused_reply _ _ c.in-Err.is) (record { text = put.text; end = refl; room = (put.room, λ n. absurd (cc)) })
