-- What the controls of the cases try: which tilings a plan reaches, for answers written down the choice that it makes, and the number s of a row by the
-- corners of its cubes. Assumes nothing.
use mathlib.Core.Bool.{Bool, true, false, cond, not, ◌&&◌, ◌||◌}
use mathlib.Core.List.{List, map, foldr}
use Prim.Native.Nat.{ℕ, zero, suc, ◌+◌, ◌/◌, ◌%◌}
use lib.IntN.{ℤ, pos, negsuc, nat_abs}
use lib.Dec.{eqb, leb}
use lib.ListN.{length}
use Rattle.cube.proofs.Table.{all_under}
use Rattle.notes.specs.Notes.{no_notes, tests_of}
use Rattle.interior.specs.Interior.{seen}
use Rattle.tilings.specs.Tilings.{is_one_of, columns_of}
use Rattle.tilings.specs.Plan.{Plan, nothing, untiled, tile, ask, Answers, Chosen, tiling, Reached, reach, run}

-- below 0
abbrev pub is_below : ℤ → Bool
is_below (pos n) = false
is_below (negsuc n) = true

-- ---- every column of every one of the tilings is reached by the plan
abbrev reaches : ℕ → ℕ → Plan → Bool
reaches code column nothing = false
reaches code column (untiled c sub) = false
reaches code column (tile n row k) = eqb code n && eqb column k
reaches code column (ask question p r) = reaches code column p || reaches code column r

abbrev pub reaches_all : List ℕ → Plan → Bool
reaches_all codes p = foldr ◌&&◌ true (map (λ code. all_under (columns_of code) (λ k. reaches code k p)) codes)

-- ---- a plan with its answers, the choice that it makes and the readings: the faces that are true, and `yes`, the answer of the case-13 test and of the interior test for an s above 0; for an s
-- below 0 the interior test answers the other way. Each of its readings is settled, and each pick has a match
pub record Test : Type 0 where
  pub plan : Plan
  pub faces : List ℕ
  pub yes : Bool
  pub makes : Reached

abbrev answers : Test → Answers
answers t = record {
  faces = λ n. is_one_of (nat_abs n) t.faces;
  insides = λ ns s. seen (cond (is_below s) (not t.yes) t.yes) (tests_of (length ns));
  insides13 = t.yes;
}

abbrev pub chosen_in : Test → Reached
chosen_in t = run (answers t) t.plan no_notes

abbrev pub test : Plan → List ℕ → Bool → Chosen → ℕ → Test
test p faces b x readings = record { plan = p; faces = faces; yes = b; makes = reach x (tests_of readings) }

-- code, row and column of a tiling drawn without the centre, and with it
abbrev pub tiled : ℕ → ℕ → ℕ → Chosen
tiled code row column = tiling code row column false

abbrev pub centred : ℕ → ℕ → ℕ → Chosen
centred code row column = tiling code row column true

-- ---- s by the set of the corners above 0 that the source's CASES has for the row, a bit for each corner: 7 where they are at most four
abbrev corners : ℕ → ℕ → ℕ
corners zero set = 0
corners (suc n) set = set % 2 + corners n (set / 2)

abbrev pub side_by : ℕ → ℤ
side_by set = cond (leb (corners 8 set) 4) (pos 7) (negsuc 6)
