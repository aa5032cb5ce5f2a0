-- Where a byte stands in a list of bytes. Definitions only.
use Rattle.std.specs.Prelude.{ℕ, suc, Bool, true, false, List, [], ◌∷◌, eqb, take, drop}

-- the bytes from a place on and below another
unfoldable pub slice : ℕ → ℕ → List ℕ → List ℕ
slice from to xs = drop from (take to xs)

-- the place of b in a list whose first byte is b or is not, by the place in what follows
unfoldable pub index_after : Bool → ℕ → ℕ
index_after true k = 0
index_after false k = suc k

-- the first place of b, and the length where there is none
unfoldable pub index_of : ℕ → List ℕ → ℕ
index_of b [] = 0
index_of b (x ∷ xs) = index_after (eqb x b) (index_of b xs)
