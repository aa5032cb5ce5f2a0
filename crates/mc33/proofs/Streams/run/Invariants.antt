-- The turns from the start on, one after the other.
use Rattle.std.proofs.Common.{◌≤◌, Some, Ok}
use Rattle.mc33.proofs.Running.{Running}
use Rattle.mc33.proofs.Streams.run.Given as goal

abbrev pub invariant-loop-turns : goal.invariant-loop-turns
invariant-loop-turns g l = (short : l.part.0 ≤ 81) × Running l._turns (Ok (Some record { have = l.part.0; number = l.part.1.0; short = short })) l.buf
