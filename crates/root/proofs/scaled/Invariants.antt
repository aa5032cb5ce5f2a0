-- `root::scaled` writes the root of a smaller number. The loop's invariant: the number is the same, written with fewer fours. The measure is how many of them are left. Assumes nothing.
use mathlib.Core.Path.{◌≡◌}
use Prim.Native.Nat.{◌*◌, ◌^◌, ◌<◌}
use Rattle.root.proofs.scaled.Given as goal

abbrev pub invariant-loop-m : goal.invariant-loop-m
invariant-loop-m l = (l.m < 2 ^ 48) × ((l.j < 192) × (l.m * 4 ^ l.j ≡ l.n * 4 ^ l.k))

abbrev pub decreases-loop-m : goal.decreases-loop-m
decreases-loop-m l = l.j
