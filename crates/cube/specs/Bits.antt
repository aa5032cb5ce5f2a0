-- Answers as a number: 1 for the first, 2 for the second, 4 for the third .. Definitions only.
use Rattle.std.specs.Prelude.{ℕ, ◌+◌, ◌*◌, Bool, cond, List, [], ◌∷◌}

abbrev pub bit_of : Bool → ℕ
bit_of b = cond b 1 0

unfoldable pub number_of : List Bool → ℕ
number_of [] = 0
number_of (b ∷ bs) = bit_of b + 2 * number_of bs
