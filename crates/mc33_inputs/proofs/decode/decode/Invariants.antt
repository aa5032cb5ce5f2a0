-- `mc33_inputs::decode` appends. Assumes nothing.
use Rattle.std.proofs.Common.{◌≤◌}
use Rattle.arrayvec.specs.ArrayVec.{array_vec_len}
use Rattle.mc33_inputs.proofs.decode.decode.Given as goal

abbrev pub invariant-loop : goal.invariant-loop
invariant-loop l = array_vec_len l.fn.room ≤ array_vec_len l.room

abbrev pub invariant-loop-byte : goal.invariant-loop-byte
invariant-loop-byte l = array_vec_len l.fn.room ≤ array_vec_len l.room
