-- What a match on a signed number taken apart tells of the number. `to_z w8 (of_z w8 z)` is how code reads z. Assumes nothing.
use mathlib.Core.Path.{◌≡◌, sym, ap, ◌∙◌}
use Prim.Native.Nat.{ℕ}
use lib.IntN.{ℤ}
use mir.Syntax.{w8}
use mir.Val.{SFits, to_z, of_z}
use mir.ValLaws.{to_z-of_z}
use Rattle.std.specs.Prelude.{Result}
use Rattle.cube.specs.Signs.{split_value}

pub taken : (z : ℤ) (r : Result ℕ ℕ) → SFits w8 z → split_value r ≡ to_z w8 (of_z w8 z) → (v : Result ℕ ℕ) → r ≡ v → z ≡ split_value v
taken z r f e v s = sym (to_z-of_z w8 z f) ∙ sym e ∙ ap split_value s
