-- Document 02, 'Change 1': the corner set of a cube, over any kind of number. Definitions only.
use Rattle.std.specs.Prelude.{ℕ, ◌/◌, ◌%◌, ◌^◌, ◌<◌, ◌≡◌, List, [], ◌∷◌, map, sum_by}
use Rattle.std.specs.Float.Ieee.{lt}
use Rattle.binary32.specs.Numbers.{Numbers, f32, plus_zero}
use Rattle.cube.specs.declared.Cube.{Cube}
use Rattle.cube.specs.Bits.{bit_of, number_of}
use Rattle.cube.specs.Corners.{corner_of}

abbrev pub eight : List ℕ
eight = 0 ∷ 1 ∷ 2 ∷ 3 ∷ 4 ∷ 5 ∷ 6 ∷ 7 ∷ []

-- a set of corners is a number whose bit n is corner n: 1 where it belongs
abbrev pub bit : ℕ → ℕ → ℕ
bit set n = set / 2 ^ n % 2

-- how many corners belong
abbrev pub size_of : ℕ → ℕ
size_of set = sum_by (bit set) eight

module _ (K : Numbers) where
  open K use {N, above}

  -- a corner belongs if its value is above 0
  unfoldable pub set_by : (ℕ → N) → ℕ
  set_by corner = number_of (map (λ n. above (corner n)) eight)

unfoldable pub set_of : Cube → ℕ
set_of q = set_by f32 (corner_of q)

-- bit n of a set is 1 where corner n's value is above 0, and 0 elsewhere
abbrev pub BitsBelong : Cube → ℕ → Type 0
BitsBelong q set = (n : ℕ) → n < 8 → bit set n ≡ bit_of (lt plus_zero (corner_of q n))
