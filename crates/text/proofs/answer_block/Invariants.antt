-- `text::answer_block` is `block_of`: `Answering` holds where a line begins, and what is left of the input falls. Assumes nothing.
use Prim.Native.Nat.{◌-◌}
use lib.ListN.{length}
use Rattle.text.proofs.Turns.{Answering}
use Rattle.text.proofs.answer_block.Given as goal

abbrev pub invariant-loop-end : goal.invariant-loop-end
invariant-loop-end g l = Answering l.input l.number l.initial.out.items l.out.items l.at l.n

abbrev pub decreases-loop-end : goal.decreases-loop-end
decreases-loop-end g l = length l.input - l.at
