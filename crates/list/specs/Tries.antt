-- Document 01, 'A reviewer's tries' 4 and 5, a list with each kind of row, a list for each refusal of a list, and lists of any length. Values are written as
-- bits. Definitions only.
use Rattle.std.specs.Prelude.{ℕ, zero, suc, ◌*◌, ◌≤◌, ◌≡◌, List, [], ◌∷◌, ◌++◌, map, ℤ, pos, negsuc, length, drop, replicate, Float}
use Rattle.std.specs.Float.{binary32}
use Rattle.std.specs.Float.Ieee.{of_bits}
use Rattle.binary32.specs.Numbers.{plus_zero}
use Rattle.rows.specs.Rows.{width, Result, done, refused_at}
use Rattle.list.specs.Lists.{result_of, answers_of}

pub record Try : Type 0 where
  pub corners : List ℕ
  pub numbers : List ℤ
  pub answers : List ℕ
  pub says : Result
  pub leaves : List ℕ

abbrev try : List ℕ → List ℤ → List ℕ → Result → List ℕ → Try
try xs ns ys r zs = record { corners = xs; numbers = ns; answers = ys; says = r; leaves = zs }

-- c0=c2=2, others -1: 3_2
abbrev pub first : List ℕ
first = 0x40000000 ∷ 0xbf800000 ∷ 0x40000000 ∷ 0xbf800000 ∷ 0xbf800000 ∷ 0xbf800000 ∷ 0xbf800000 ∷ 0xbf800000 ∷ []

-- c0=c2=1, c1=c3=-2, others -1: 3_1
abbrev pub second : List ℕ
second = 0x3f800000 ∷ 0xc0000000 ∷ 0x3f800000 ∷ 0xc0000000 ∷ 0xbf800000 ∷ 0xbf800000 ∷ 0xbf800000 ∷ 0xbf800000 ∷ []

-- c0=c6=3, others -1: 4_2, unsettled 3
abbrev pub third : List ℕ
third = 0x40400000 ∷ 0xbf800000 ∷ 0xbf800000 ∷ 0xbf800000 ∷ 0xbf800000 ∷ 0xbf800000 ∷ 0x40400000 ∷ 0xbf800000 ∷ []

-- document 01, 'Program', 13/0: no tiling, sub-configuration 5
abbrev untiled : List ℕ
untiled = 0x3f800000 ∷ 0x40000000 ∷ 0x3f800000 ∷ 0x40000000 ∷ 0x3f800000 ∷ 0x40800000 ∷ 0x3f800000 ∷ 0x40800000 ∷ []

-- as the Rust chooses, 13/1: no tiling, sub-configuration 37
abbrev untiled1 : List ℕ
untiled1 = 0xc0000000 ∷ 0xbf800000 ∷ 0xc0000000 ∷ 0xbf800000 ∷ 0xbf800000 ∷ 0xc0000000 ∷ 0xc0000000 ∷ 0xc0000000 ∷ []

-- likewise 7/5: 7_3, row 5, column 2, with a centre
abbrev centred : List ℕ
centred = 0xc0400000 ∷ 0x40000000 ∷ 0xbf800000 ∷ 0xc0000000 ∷ 0x3f800000 ∷ 0xc0400000 ∷ 0x40400000 ∷ 0xbf800000 ∷ []

-- all 1, unsuited, 12/0: 12_1_2, row 23, unsettled 2, unmatched 2
abbrev unmatched : List ℕ
unmatched = 0x3f800000 ∷ 0x3f800000 ∷ 0x3f800000 ∷ 0x3f800000 ∷ 0x3f800000 ∷ 0x3f800000 ∷ 0x3f800000 ∷ 0x3f800000 ∷ []

-- c7 is NaN
abbrev pub spoilt : List ℕ
spoilt = 0xbf800000 ∷ 0xbf800000 ∷ 0xbf800000 ∷ 0xbf800000 ∷ 0xbf800000 ∷ 0xbf800000 ∷ 0xbf800000 ∷ 0x7fc00000 ∷ []

-- room for a row
abbrev pub room : List ℕ
room = 9 ∷ 9 ∷ 9 ∷ 9 ∷ 9 ∷ 9 ∷ []

abbrev case3 : List ℤ
case3 = pos 3 ∷ pos 0 ∷ []

unfoldable pub tries : List Try
tries =
    -- one cube; two; and more room than two need
    try first case3 room done (4 ∷ 0 ∷ 0 ∷ 0 ∷ 0 ∷ 1 ∷ [])
    ∷ try (first ++ second) (case3 ++ case3) (room ++ room) done (4 ∷ 0 ∷ 0 ∷ 0 ∷ 0 ∷ 1 ∷ 3 ∷ 0 ∷ 0 ∷ 0 ∷ 0 ∷ 1 ∷ [])
    ∷ try (third ++ first) (pos 4 ∷ pos 0 ∷ pos 0 ∷ negsuc 0 ∷ []) (room ++ room ++ room) done (6 ∷ 0 ∷ 0 ∷ 6 ∷ 0 ∷ 3 ∷ 0 ∷ 0 ∷ 0 ∷ 0 ∷ 0 ∷ 0 ∷ room)
    -- no tiling in either configuration
    ∷ try (untiled ++ untiled1) (pos 13 ∷ pos 0 ∷ pos 13 ∷ pos 1 ∷ []) (room ++ room) done (255 ∷ 0 ∷ 5 ∷ 0 ∷ 0 ∷ 6 ∷ 255 ∷ 1 ∷ 37 ∷ 0 ∷ 0 ∷ 6 ∷ [])
    -- a row, a column and a centre; a row and picks without a match
    ∷ try (centred ++ unmatched) (pos 7 ∷ pos 5 ∷ pos 12 ∷ pos 0 ∷ []) (room ++ room) done (13 ∷ 5 ∷ 2 ∷ 1 ∷ 0 ∷ 3 ∷ 26 ∷ 23 ∷ 0 ∷ 4 ∷ 2 ∷ 4 ∷ [])
    -- no cubes
    ∷ try [] [] room done room
    -- the second cube is refused, and the first of two that are
    ∷ try (first ++ spoilt) (case3 ++ case3) (room ++ room) (refused_at 3 1) (room ++ room)
    ∷ try (first ++ spoilt ++ first) (case3 ++ case3 ++ (pos 15 ∷ pos 0 ∷ [])) (room ++ room ++ room) (refused_at 3 1) (room ++ room ++ room)
    -- 6: 8 values and 4 numbers, an odd number of numbers, a value more; and before 7 and 3
    ∷ try first (case3 ++ case3) room (refused_at 6 0) room
    ∷ try first (pos 3 ∷ pos 0 ∷ pos 0 ∷ []) room (refused_at 6 0) room
    ∷ try (first ++ (0 ∷ [])) case3 room (refused_at 6 0) room
    ∷ try spoilt [] [] (refused_at 6 0) []
    -- 7: 1 cube and 5 bytes, or the 4 of an old row; and before 3
    ∷ try first case3 (9 ∷ 9 ∷ 9 ∷ 9 ∷ 9 ∷ []) (refused_at 7 0) (9 ∷ 9 ∷ 9 ∷ 9 ∷ 9 ∷ [])
    ∷ try first case3 (9 ∷ 9 ∷ 9 ∷ 9 ∷ []) (refused_at 7 0) (9 ∷ 9 ∷ 9 ∷ 9 ∷ [])
    ∷ try spoilt case3 [] (refused_at 7 0) []
    ∷ []

-- k cubes of zeros, and case 0 with configuration -1 for each
abbrev pub zeros : ℕ → List Float
zeros k = replicate (8 * k) plus_zero

abbrev pub empties : ℕ → List ℤ
empties zero = []
empties (suc k) = pos 0 ∷ negsuc 0 ∷ empties k

abbrev values : Try → List Float
values t = map (of_bits binary32) t.corners

pub record ListTries : Type 0 where
  pub outcomes : map (λ t. result_of (values t) t.numbers (length t.answers)) tries ≡ map (λ t. t.says) tries
  pub answers : map (λ t. answers_of (values t) t.numbers t.answers) tries ≡ map (λ t. t.leaves) tries
  -- however many cubes there are: empty ones, in as much room as they need or more
  pub any_number : (k : ℕ) (ys : List ℕ) → width * k ≤ length ys
      → (result_of (zeros k) (empties k) (length ys) ≡ done) × (answers_of (zeros k) (empties k) ys ≡ replicate (width * k) 0 ++ drop (width * k) ys)
