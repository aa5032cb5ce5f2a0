-- Document 02, 'Change 1': a list of cubes without their numbers, what it comes to, and its answer bytes. Definitions only.
use Rattle.std.specs.Prelude.{ℕ, ◌%◌, Bool, cond, List, eqb, length, Float}
use Rattle.cube.specs.Corners.{all_finite}
use Rattle.tilings.specs.Plan.{Reached}
use Rattle.reader.specs.Reader.{cube_at}
use Rattle.signs.specs.Front.{choice_for}
use Rattle.rows.specs.Rows.{Result, done, refused_at}
use Rattle.list.specs.Lists.{cubes, result_by, rows_of, answers_by}

-- the number of cube i's refusal: 3, or 0 where there is none
unfoldable pub refusal_at : List Float → ℕ → ℕ
refusal_at xs i = cond (all_finite (cube_at xs i)) 0 3

-- the choice for cube i: that of the family of its set
unfoldable pub choice_at : List Float → ℕ → Reached
choice_at xs i = choice_for (cube_at xs i)

-- 8 values a cube
abbrev pub whole : List Float → Bool
whole xs = eqb (length xs % 8) 0

-- refusal 6, then 7, then the cubes from the first
unfoldable pub result_of : List Float → ℕ → Result
result_of xs room = result_by (whole xs) (cubes xs) room (refusal_at xs)

unfoldable pub answers_of : List Float → List ℕ → List ℕ
answers_of xs ys = answers_by (result_of xs (length ys)) (rows_of (choice_at xs) (cubes xs)) ys

-- the number of a list's refusal, 0 where it is done
abbrev pub number_in : Result → ℕ
number_in done = 0
number_in (refused_at n i) = n
