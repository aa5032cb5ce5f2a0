-- `root::isqrt` finds the whole root. The loop's invariant is what the function asks for, of the digits found so far. Assumes nothing.
use Rattle.std.proofs.Common.{◌-◌}
use Rattle.root.specs.Search.{DigitsLeft}
use Rattle.root.proofs.isqrt.Given as goal

abbrev pub invariant-loop : goal.invariant-loop
invariant-loop l = DigitsLeft l.n l.q (l.bits - l.counter) l.weight
