-- Lists without numbers: one with each kind of row, one for each refusal, in each order of two, and lists of any length. Values are written as bits. Definitions only.
use Rattle.std.specs.Prelude.{ℕ, ◌*◌, ◌≤◌, ◌≡◌, List, [], ◌∷◌, ◌++◌, map, length, drop, replicate, Float}
use Rattle.std.specs.Float.{binary32}
use Rattle.std.specs.Float.Ieee.{of_bits}
use Rattle.rows.specs.Rows.{width, Result, done, refused_at}
use Rattle.list.specs.Tries.{first, second, third, spoilt, room, zeros}
use Rattle.list_signs.specs.Lists.{result_of, answers_of}

pub record Try : Type 0 where
  pub corners : List ℕ
  pub answers : List ℕ
  pub says : Result
  pub leaves : List ℕ

abbrev try : List ℕ → List ℕ → Result → List ℕ → Try
try xs ys r zs = record { corners = xs; answers = ys; says = r; leaves = zs }

-- a zero, others -1: set 0; and all above 0: set 255
abbrev nought : List ℕ
nought = 0xbf800000 ∷ 0x00000000 ∷ 0xbf800000 ∷ 0xbf800000 ∷ 0xbf800000 ∷ 0xbf800000 ∷ 0xbf800000 ∷ 0xbf800000 ∷ []

abbrev full : List ℕ
full = 0x40000000 ∷ 0x40400000 ∷ 0x3f800000 ∷ 0x3f800000 ∷ 0x40400000 ∷ 0x40400000 ∷ 0x3f800000 ∷ 0x40000000 ∷ []

-- as the Rust chooses, 13/0 and 13/1, each with a zero: no tiling
abbrev untiled : List ℕ
untiled = 0x3f800000 ∷ 0xdf800000 ∷ 0x5f800000 ∷ 0xdf800000 ∷ 0x80000000 ∷ 0x7f7fffff ∷ 0xdf000000 ∷ 0x5f800000 ∷ []

abbrev untiled1 : List ℕ
untiled1 = 0xdf800000 ∷ 0x5f800000 ∷ 0x80000000 ∷ 0x5f800000 ∷ 0x3f800000 ∷ 0xdf800000 ∷ 0x5f800000 ∷ 0xbf800000 ∷ []

-- likewise 13/1: 13_3_, row 1, column 2, with a centre
abbrev centred : List ℕ
centred = 0xbf000000 ∷ 0x3d800000 ∷ 0xc7000000 ∷ 0x47800000 ∷ 0x42800000 ∷ 0xb9000000 ∷ 0x3b800000 ∷ 0xba000000 ∷ []

-- likewise 6/44, with a zero: row 44, unsettled 1, unmatched 1
abbrev unmatched : List ℕ
unmatched = 0xbf032e30 ∷ 0x004eb64a ∷ 0x8026c83a ∷ 0x3f4d4bc0 ∷ 0x000edc7a ∷ 0x00000001 ∷ 0x80000000 ∷ 0x3f800000 ∷ []

-- c0 is infinite
abbrev infinite : List ℕ
infinite = 0x7f800000 ∷ 0xbf800000 ∷ 0xbf800000 ∷ 0xbf800000 ∷ 0xbf800000 ∷ 0xbf800000 ∷ 0xbf800000 ∷ 0xbf800000 ∷ []

unfoldable pub tries : List Try
tries =
    -- one cube; two; and more room than two need
    try first room done (4 ∷ 0 ∷ 0 ∷ 0 ∷ 0 ∷ 1 ∷ [])
    ∷ try (first ++ second) (room ++ room) done (4 ∷ 0 ∷ 0 ∷ 0 ∷ 0 ∷ 1 ∷ 3 ∷ 0 ∷ 0 ∷ 0 ∷ 0 ∷ 1 ∷ [])
    ∷ try (third ++ first) (room ++ room ++ room) done (6 ∷ 0 ∷ 0 ∷ 6 ∷ 0 ∷ 3 ∷ 4 ∷ 0 ∷ 0 ∷ 0 ∷ 0 ∷ 1 ∷ room)
    -- empty, by either set
    ∷ try (nought ++ full) (room ++ room) done (0 ∷ 0 ∷ 0 ∷ 0 ∷ 0 ∷ 0 ∷ 0 ∷ 0 ∷ 0 ∷ 0 ∷ 0 ∷ 0 ∷ [])
    -- no tiling in either configuration
    ∷ try (untiled ++ untiled1) (room ++ room) done (255 ∷ 0 ∷ 15 ∷ 0 ∷ 0 ∷ 6 ∷ 255 ∷ 1 ∷ 53 ∷ 0 ∷ 0 ∷ 6 ∷ [])
    -- a row, a column and a centre; a row and a pick without a match
    ∷ try (centred ++ unmatched) (room ++ room) done (34 ∷ 1 ∷ 2 ∷ 1 ∷ 0 ∷ 6 ∷ 9 ∷ 44 ∷ 0 ∷ 2 ∷ 1 ∷ 2 ∷ [])
    -- no cubes
    ∷ try [] room done room
    -- the second cube is refused, and the first of two that are
    ∷ try (first ++ spoilt) (room ++ room) (refused_at 3 1) (room ++ room)
    ∷ try (first ++ infinite ++ spoilt) (room ++ room ++ room) (refused_at 3 1) (room ++ room ++ room)
    -- 6: a value more, a value less; before 7, before 3, and before both
    ∷ try (first ++ (0 ∷ [])) room (refused_at 6 0) room
    ∷ try (drop 1 first) room (refused_at 6 0) room
    ∷ try (first ++ (0 ∷ [])) [] (refused_at 6 0) []
    ∷ try (spoilt ++ (0 ∷ [])) room (refused_at 6 0) room
    ∷ try (spoilt ++ (0 ∷ [])) [] (refused_at 6 0) []
    -- 7: 1 cube and 5 bytes, or the 4 of an old row; and before 3
    ∷ try first (9 ∷ 9 ∷ 9 ∷ 9 ∷ 9 ∷ []) (refused_at 7 0) (9 ∷ 9 ∷ 9 ∷ 9 ∷ 9 ∷ [])
    ∷ try first (9 ∷ 9 ∷ 9 ∷ 9 ∷ []) (refused_at 7 0) (9 ∷ 9 ∷ 9 ∷ 9 ∷ [])
    ∷ try spoilt [] (refused_at 7 0) []
    ∷ []

abbrev pub values : Try → List Float
values t = map (of_bits binary32) t.corners

pub record ListTries : Type 0 where
  pub outcomes : map (λ t. result_of (values t) (length t.answers)) tries ≡ map (λ t. t.says) tries
  pub answers : map (λ t. answers_of (values t) t.answers) tries ≡ map (λ t. t.leaves) tries
  -- however many cubes there are: cubes of zeros, in as much room as they need or more
  pub any_number : (k : ℕ) (ys : List ℕ) → width * k ≤ length ys
      → (result_of (zeros k) (length ys) ≡ done) × (answers_of (zeros k) ys ≡ replicate (width * k) 0 ++ drop (width * k) ys)
