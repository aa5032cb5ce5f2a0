-- How the code of the diagonal pick keeps the four pairs, each by its first corner. Definitions only.
use Rattle.std.specs.Prelude.{ℕ, Bool, false, [], ◌∷◌, ℤ, get_or}
use Rattle.binary32.specs.Numbers.{Numbers, f32}
use Rattle.cube.specs.declared.Cube.{Cube}
use Rattle.cube.specs.Bits.{number_of}
use Rattle.cube.specs.Corners.{corner_of}
use Rattle.interior.specs.declared.Diagonals.{Diagonals}
use Rattle.interior.specs.Pick.{Diagonal, pair, matches_by}

-- which of the four pairs match
unfoldable pub diagonals_by : (K : Numbers) → (ℕ → K.N) → ℤ → Diagonals
diagonals_by K corner s = record {
  from0 = matches_by K corner s (pair 0 6 0);
  from1 = matches_by K corner s (pair 1 7 0);
  from2 = matches_by K corner s (pair 2 4 0);
  from3 = matches_by K corner s (pair 3 5 0);
}

abbrev pub diagonals_of : Cube → ℤ → Diagonals
diagonals_of q s = diagonals_by f32 (corner_of q) s

unfoldable pub held_by : Diagonals → Diagonal → Bool
held_by d p = get_or (d.from0 ∷ d.from1 ∷ d.from2 ∷ d.from3 ∷ []) p.one false

-- the pairs that match as a number, 1 for the pair of corner 0, 2 for that of corner 1, then 4 and 8
unfoldable pub set_of : Diagonals → ℕ
set_of d = number_of (d.from0 ∷ d.from1 ∷ d.from2 ∷ d.from3 ∷ [])
