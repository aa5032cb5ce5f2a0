-- A signed number, as the code takes it apart. Definitions only.
use Rattle.std.specs.Prelude.{ℕ, ℤ, pos, negsuc, Result, Ok, Err}

abbrev pub split_value : Result ℕ ℕ → ℤ
split_value (Ok k) = pos k
split_value (Err k) = negsuc k
