-- Document 01, 'A choice': the corners c0 to c7 of a cube. Definitions only.
use Rattle.std.specs.Prelude.{ℕ, ◌*◌, ◌/◌, ◌%◌, ◌^◌, Bool, true, ◌&&◌, cond, get_or, ltb, Float}
use mathlib.Core.List.{List, [], ◌∷◌, map, foldr}
use Rattle.std.specs.Float.{nan, binary32}
use Rattle.std.specs.Float.Ieee.{of_bits}
use Rattle.std.specs.Float.Ieee.Scale.{finite}
use Rattle.cube.specs.declared.Cube.{Cube}

unfoldable pub corners : Cube → List Float
corners q = q.c0 ∷ q.c1 ∷ q.c2 ∷ q.c3 ∷ q.c4 ∷ q.c5 ∷ q.c6 ∷ q.c7 ∷ []

-- a table of corners as one number: the corner at place k is the hex digit there, by its last three bits
abbrev pub digit_of : ℕ → ℕ → ℕ
digit_of column k = column / 2 ^ (4 * k) % 8

-- the value at corner k of eight values, and a NaN past corner 7
unfoldable pub value_at : List Float → ℕ → Float
value_at values k = cond (ltb k 8) (get_or values k nan) nan

unfoldable pub corner_of : Cube → ℕ → Float
corner_of q k = value_at (corners q) k

-- what refusal 3 asks: no corner is NaN or infinite
unfoldable pub all_finite : Cube → Bool
all_finite q = foldr ◌&&◌ true (map finite (corners q))

-- the cube whose corners have these bits
abbrev pub cube : ℕ → ℕ → ℕ → ℕ → ℕ → ℕ → ℕ → ℕ → Cube
cube a b c d e f g h = record {
  c0 = of_bits binary32 a;
  c1 = of_bits binary32 b;
  c2 = of_bits binary32 c;
  c3 = of_bits binary32 d;
  c4 = of_bits binary32 e;
  c5 = of_bits binary32 f;
  c6 = of_bits binary32 g;
  c7 = of_bits binary32 h;
}
