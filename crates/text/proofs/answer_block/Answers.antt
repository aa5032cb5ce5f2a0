-- `text::answer_block` is `block_of`: `Answering` holds where a line begins. Assumes nothing.
use Rattle.std.proofs.Common.{sym, refl, ◌∙◌, ◌-◌, take, drop}
use Rattle.text.proofs.Joins.{composes}
use Rattle.text.proofs.Turns.{begins, last, stops, turn, went_on}
use Rattle.text.proofs.answer_block.Goals as goal

pub loop-end-init : goal.loop-end-init
loop-end-init g c = begins c.args.input.now c.args.number c.args.out.now.items

pub returns-in_err-answer_line-clause-block : goal.returns-in_err-answer_line-clause-block
returns-in_err-answer_line-clause-block g c =
    let said = c.answer_line in
    let now = c.loop-end in
    let input = c.args.input.now in
    let end = c.in-Some.end in
    let found = c.in-Some.ensures in
    rw c.from_residual.ensures
    (stops input c.args.number c.args.out.now.items now.out.items now.at now.n now.invariant
    end found.place found.within (take (end - now.at) (drop now.at input)) refl said.new.out.items said.ensures.text
    _ (sym said.ensures.end ∙ c.in_err-answer_line.was))

pub returns-in_err-answer_line-clause-composes : goal.returns-in_err-answer_line-clause-composes
returns-in_err-answer_line-clause-composes g c = composes c.args.number c.args.input.now

pub loop-end-preserved : goal.loop-end-preserved
loop-end-preserved g c =
    let said = c.answer_line in
    let now = c.loop-end in
    let input = c.args.input.now in
    let end = c.in-Some.end in
    let found = c.in-Some.ensures in
    let on = went_on _ _ _ (sym said.ensures.end ∙ c.in_ok-answer_line.was) in
    turn input c.args.number c.args.out.now.items now.out.items now.at now.n now.invariant
    end found.place found.within (take (end - now.at) (drop now.at input)) refl said.new.out.items said.ensures.text
    (said.ensures.room.1 on) on

pub returns-clause-block : goal.returns-clause-block
returns-clause-block g c =
    let now = c.loop-end in
    last c.args.input.now c.args.number c.args.out.now.items now.out.items now.at now.n now.invariant c.in_default.ensures.place _ c.part_line.ensures.block

pub returns-clause-composes : goal.returns-clause-composes
returns-clause-composes g c = composes c.args.number c.args.input.now
