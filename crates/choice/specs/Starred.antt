-- Document 01, 'Cubes to check by hand': the starred cubes, one table, and the two other cubes whose unsettled document 02, Change 2, gives; each with its
-- readings by Change 7. Values are written as bits: 1 is 3f800000, -1 bf800000. Definitions only.
use Rattle.std.specs.Prelude.{ℕ, ◌≡◌, false, List, [], ◌∷◌, map, pos}
use Rattle.cube.specs.declared.Cube.{Cube}
use Rattle.cube.specs.Corners.{cube}
use Rattle.tilings.specs.Tilings.{TILING_3_1, TILING_3_2, TILING_4_1, TILING_4_2, TILING_7_4_2, TILING_10_1_2, TILING_12_1_2, TILING_13_1, TILING_13_1_}
use Rattle.tilings.specs.Plan.{tiling, reach}
use Rattle.choice.specs.Choice.{Said, made, answer_of}

abbrev one : ℕ
one = 0x3f800000

abbrev minus_one : ℕ
minus_one = 0xbf800000

pub record Star : Type 0 where
  pub case : ℕ
  pub configuration : ℕ
  pub q : Cube
  pub says : Said

-- a tiling of column 0 and without the centre; each pick has a match. Then unsettled and readings
abbrev star : ℕ → ℕ → Cube → ℕ → ℕ → ℕ → ℕ → Star
star case c q code row unsettled readings =
    record { case = case; configuration = c; q = q; says = made (reach (tiling code row 0 false) (record { unsettled = unsettled; unmatched = 0; readings = readings })) }

unfoldable pub stars : List Star
stars =
    -- c0=c2=2: 3_2. c0=c2=1, c1=c3=-2: 3_1. c0=c2=1: 3_2 by the tie
    star 3 0 (cube 0x40000000 minus_one 0x40000000 minus_one minus_one minus_one minus_one minus_one) TILING_3_2 0 0 1
    ∷ star 3 0 (cube one 0xc0000000 one 0xc0000000 minus_one minus_one minus_one minus_one) TILING_3_1 0 0 1
    ∷ star 3 0 (cube one minus_one one minus_one minus_one minus_one minus_one minus_one) TILING_3_2 0 0 1
    -- c5=c7=-1, others 1: 3_1, row 12
    ∷ star 3 12 (cube one one one one one minus_one one minus_one) TILING_3_1 12 0 1
    -- c0=c2=1, c1=-(1+2^-23): 3_1. c0=1, c2=1-2^-24: 3_2
    ∷ star 3 0 (cube one 0xbf800001 one minus_one minus_one minus_one minus_one minus_one) TILING_3_1 0 0 1
    ∷ star 3 0 (cube one minus_one 0x3f7fffff minus_one minus_one minus_one minus_one minus_one) TILING_3_2 0 0 1
    -- c0=c6=1: 4_1. c0=c6=9: 4_2, unsettled 0. c0=c6=3: 4_2, unsettled 3
    ∷ star 4 0 (cube one minus_one minus_one minus_one minus_one minus_one one minus_one) TILING_4_1 0 0 3
    ∷ star 4 0 (cube 0x41100000 minus_one minus_one minus_one minus_one minus_one 0x41100000 minus_one) TILING_4_2 0 0 3
    ∷ star 4 0 (cube 0x40400000 minus_one minus_one minus_one minus_one minus_one 0x40400000 minus_one) TILING_4_2 0 3 3
    -- c0=c2=c5=1: 7_4_2
    ∷ star 7 0 (cube one minus_one one minus_one minus_one one minus_one minus_one) TILING_7_4_2 0 0 6
    -- c0=c1=c6=c7=1: 10_1_2, row 5; by Change 2 unsettled 1
    ∷ star 10 0 (cube one one minus_one minus_one minus_one minus_one one one) TILING_10_1_2 5 1 3
    -- c0=c2=c5=c7=1: 13_1_; negatives -2: 13_1
    ∷ star 13 0 (cube one minus_one one minus_one minus_one one minus_one one) TILING_13_1_ 0 0 6
    ∷ star 13 0 (cube one 0xc0000000 one 0xc0000000 0xc0000000 one 0xc0000000 one) TILING_13_1 0 0 6
    -- Change 2: case 4, all 1: unsettled 3. Case 12, c0=c1=c2=c7=1: unsettled 2
    ∷ star 4 0 (cube one one one one one one one one) TILING_4_2 0 3 3
    ∷ star 12 0 (cube one one one minus_one minus_one minus_one minus_one one) TILING_12_1_2 23 2 4
    ∷ []

abbrev pub StarredCubes : Type 0
StarredCubes = map (λ s. answer_of (pos s.case) (pos s.configuration) s.q) stars ≡ map (λ s. s.says) stars
