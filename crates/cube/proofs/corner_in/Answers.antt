-- `cube::corner_in` is `digit_of`: past place 15 a number of 64 bits has no digits left.
use mathlib.Core.Path.{◌≡◌}
use Prim.Native.Nat.{ℕ, ◌*◌, ◌/◌, ◌%◌, ◌^◌, ◌≤◌, ◌<◌}
use native.Mathlib.Nat.{div-eq_of_lt, lt_of_lt_of_le}
use native.Mathlib.Omega.{arith}
use borrow.Author.Rules.{rules}
use lib.Pow.{pow_mono}
use Rattle.cube.proofs.corner_in.Goals as goal

none_left : (n k : ℕ) → n < 2 ^ 64 → 16 ≤ k → 0 ≡ n / 2 ^ (4 * k) % 8
none_left n k h l =
    let more : 2 ^ 64 ≤ 2 ^ (4 * k) = pow_mono {i = 64} {j = 4 * k} (omega arith) in
    rw (div-eq_of_lt (lt_of_lt_of_le h more))

pub returns-then-k-ge16 : goal.returns-then-k-ge16
returns-then-k-ge16 c = none_left _ _ (search rules) c.if-k-ge16.true
