-- `hex_digits::number`: the digits that are left add to the number so far what all add to none. Assumes nothing.
use Rattle.std.proofs.Common.{◌≡◌, ◌<◌, ◌^◌, drop}
use Rattle.hex_digits.specs.Hex.{number_of}
use Rattle.hex_digits.proofs.number.Given as goal

abbrev pub invariant-loop-b : goal.invariant-loop-b
invariant-loop-b l = record {
  same : number_of 0 l.digits ≡ number_of l.n (drop l.b-index l.digits);
  small : l.n < 16 ^ l.b-index;
}
