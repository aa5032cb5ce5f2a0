-- Text at a place of a slice. Definitions only.
use Rattle.std.specs.Prelude.{ℕ, ◌+◌, List, ◌++◌, length, take, drop}

-- xs with text in place of what stands from `at` on
unfoldable pub placed : List ℕ → ℕ → List ℕ → List ℕ
placed xs at text = take at xs ++ (text ++ drop (at + length text) xs)
