-- Document 01, 'Program': a number in decimal digits, no plus and no needless zero. Definitions only.
use Rattle.std.specs.Prelude.{ℕ, zero, suc, ◌+◌, ◌/◌, ◌%◌, cond, List, [], ◌∷◌, ◌++◌, ltb}

-- with at most k digits
unfoldable pub decimal_in : ℕ → ℕ → List ℕ
decimal_in zero n = []
decimal_in (suc k) n = cond (ltb n 10) ((48 + n) ∷ []) (decimal_in k (n / 10) ++ ((48 + n % 10) ∷ []))

-- n has at most n + 1 digits
unfoldable pub decimal : ℕ → List ℕ
decimal n = decimal_in (suc n) n
