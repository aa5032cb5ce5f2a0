-- The numbers so far, with a space behind each, of which each has four bytes at most.
use Rattle.std.proofs.Common.{◌≡◌, ◌++◌, ◌+◌, ◌*◌, ◌≤◌, take}
use Rattle.arrayvec.specs.ArrayVec.{array_vec_len}
use Rattle.answer.proofs.Joined.{spaced}
use Rattle.answer.proofs.put_fields.Given as goal

abbrev pub invariant-loop-n : goal.invariant-loop-n
invariant-loop-n g l = record {
  text : l.out.items ≡ l.fn.out.items ++ spaced (take l.n-index l.numbers);
  room : array_vec_len l.out ≤ array_vec_len l.fn.out + 4 * l.n-index;
}
