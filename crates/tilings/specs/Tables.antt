-- What the source's tables are written and read with. Definitions only.
use Rattle.std.specs.Prelude.{ℕ, ◌-◌, List, [], ℤ, pos, negsuc, get_or}

-- -n, for an n above 0
abbrev pub minus : ℕ → ℤ
minus n = negsuc (n - 1)

-- entry k of row c
abbrev pub entry : List (List ℤ) → ℕ → ℕ → ℤ
entry table c k = get_or (get_or table c []) k (pos 0)
