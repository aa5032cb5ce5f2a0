-- What 'nearest value' says of a root, by squares of whole numbers: document 01, paragraph 'Root'. With x, r and y as a, d and b of binary32's smallest value,
-- 2 ^ -149, the root of x is the root of a * 2 ^ 149 in that unit. It is nearer to d than to b if it lies on d's side of the middle, (d + b) / 2. Definitions only.
use Rattle.std.specs.Prelude.{ℕ, ◌+◌, ◌*◌, ◌^◌, ◌<◌, false, T, Float}
use Rattle.std.specs.Float.{binary32}
use Rattle.std.specs.Float.Ieee.{low, fits}
use Rattle.std.specs.Float.Ieee.Exact.{HasValue}
use Rattle.root.specs.Root.{square}

-- x is a * 2 ^ -149
abbrev pub Units : Float → ℕ → Type 0
Units x a = HasValue x false a (2 ^ low binary32)

-- the root of n is nearer to d than to b
pub record Nearer (n d b : ℕ) : Type 0 where
  pub above : b < d → square (d + b) < 4 * n
  pub below : d < b → 4 * n < square (d + b)

-- Of a positive x, r is finite and nearer to the root than any other finite value from zero up that an f32 holds. (A value below zero is farther than zero.)
pub record NearestRoot (x r : Float) : Type 0 where
  pub near : (a : ℕ) → 0 < a → Units x a
      → (d : ℕ) × Units r d × ((y : Float) (b : ℕ) → T (fits binary32 y) → Units y b → Nearer (a * 2 ^ low binary32) d b)
