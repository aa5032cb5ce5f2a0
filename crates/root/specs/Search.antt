-- Where the search for a whole root stands, digit by digit.
use Rattle.std.specs.Prelude.{◌≡◌, ℕ, ◌+◌, ◌^◌, ◌≤◌, ◌<◌}
use Rattle.root.specs.Root.{square}

-- The root of n has the leading digits of `root`, and `bits` digits more: it lies from `root` up to `root` + `unit`.
pub record DigitsLeft (n root bits unit : ℕ) : Type 0 where
  pub weight : unit ≡ 2 ^ bits
  pub from : square root ≤ n
  pub up_to : n < square (root + unit)
  pub small : root + unit ≤ 2 ^ 24
