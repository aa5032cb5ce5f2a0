-- Document 01, 'List' and 'What is refused': a list of cubes, what it comes to, and its answer bytes. Definitions only.
use Rattle.std.specs.Prelude.{ℕ, zero, suc, ◌*◌, ◌/◌, ◌%◌, ◌<◌, ◌≡◌, Bool, cond, ◌&&◌, List, [], ◌++◌, eqb, leb, ℤ, length, drop, Float}
use Rattle.tilings.specs.Plan.{Reached}
use Rattle.rows.specs.Rows.{width, refusal_at, choice_at, bytes_of, Result, done, refused_at}
use Rattle.rows.specs.Parts.{block}

-- how many cubes there are, 8 corner values each
abbrev pub cubes : List Float → ℕ
cubes xs = length xs / 8

-- 8 values and 2 numbers a cube, and of both the same cubes
unfoldable pub lengths_agree : List Float → List ℤ → Bool
lengths_agree xs ns = eqb (length xs % 8) 0 && eqb (length ns % 2) 0 && eqb (cubes xs) (length ns / 2)

-- of k cubes from cube i on, the first that is refused; by the number of each cube's refusal, 0 where there is none
unfoldable pub first_from : (ℕ → ℕ) → ℕ → ℕ → Result
first_from refusal zero i = done
first_from refusal (suc k) i = let n = refusal i in cond (eqb n 0) (first_from refusal k (suc i)) (refused_at n i)

-- refusal 6, unless the lengths agree; then 7, where there is room for fewer bytes than the rows of the n cubes have; then the cubes from the first
unfoldable pub result_by : Bool → ℕ → ℕ → (ℕ → ℕ) → Result
result_by agree n room refusal = cond agree (cond (leb (width * n) room) (first_from refusal n 0) (refused_at 7 0)) (refused_at 6 0)

-- the bytes of the first k cubes, by each cube's choice
unfoldable pub rows_of : (ℕ → Reached) → ℕ → List ℕ
rows_of choice zero = []
rows_of choice (suc k) = rows_of choice k ++ bytes_of (choice k)

-- the answer bytes afterwards: bytes past the last cube's stay, and a refused list has every byte unchanged
abbrev pub answers_by : Result → List ℕ → List ℕ → List ℕ
answers_by done rows ys = rows ++ drop (length rows) ys
answers_by (refused_at n i) rows ys = ys

-- each of n cubes has its row at its place
abbrev pub InPlace : (ℕ → Reached) → ℕ → List ℕ → Type 0
InPlace choice n ys = (i : ℕ) → i < n → block width ys i ≡ bytes_of (choice i)

-- cubes with their numbers: what the list comes to
unfoldable pub result_of : List Float → List ℤ → ℕ → Result
result_of xs ns room = result_by (lengths_agree xs ns) (cubes xs) room (refusal_at xs ns)

-- and its answer bytes
unfoldable pub answers_of : List Float → List ℤ → List ℕ → List ℕ
answers_of xs ns ys = answers_by (result_of xs ns (length ys)) (rows_of (choice_at xs ns) (cubes xs)) ys
