-- That the definitions say something, by computation: what stands at each place of two cubes with and without a part behind them, of a part alone and of
-- no corners. Values are written as bits, each another. Assumes nothing.
use mathlib.Core.Path.{◌≡◌, refl}
use mathlib.Core.List.{List, [], ◌∷◌, ◌++◌, map}
use Prim.Native.Nat.{ℕ}
use lib.Ieee.{binary32, of_bits}
use Rattle.std.specs.Prelude.{Ok, Err}
use Rattle.cube.specs.declared.Cube.{Cube}
use Rattle.cube.specs.Corners as Corners
use Rattle.reader.specs.declared.Past.TheVariants as past
use Rattle.reader.specs.Reader.{Standing, cube, part, end, standing, cube_at, step_at}

abbrev first : Cube
first = Corners.cube 10 11 12 13 14 15 16 17

abbrev second : Cube
second = Corners.cube 20 21 22 23 24 25 26 27

two : List ℕ
two = 10 ∷ 11 ∷ 12 ∷ 13 ∷ 14 ∷ 15 ∷ 16 ∷ 17 ∷ 20 ∷ 21 ∷ 22 ∷ 23 ∷ 24 ∷ 25 ∷ 26 ∷ 27 ∷ []

abbrev at : List ℕ → ℕ → Standing
at xs = step_at (map (of_bits binary32) xs)

two_cubes : map (at two) (0 ∷ 1 ∷ 2 ∷ 3 ∷ []) ≡ cube first ∷ cube second ∷ end ∷ end ∷ []
unfolding two step_at cube_at of_bits
two_cubes = refl

-- one value more, and seven
part_behind : map (at (two ++ (30 ∷ []))) (0 ∷ 1 ∷ 2 ∷ 3 ∷ []) ≡ cube first ∷ cube second ∷ part ∷ part ∷ []
unfolding two step_at cube_at of_bits
part_behind = refl

part_alone : map (at (10 ∷ 11 ∷ 12 ∷ 13 ∷ 14 ∷ 15 ∷ 16 ∷ [])) (0 ∷ 1 ∷ []) ≡ part ∷ part ∷ []
unfolding step_at cube_at of_bits
part_alone = refl

no_corners : map (at []) (0 ∷ 1 ∷ []) ≡ end ∷ end ∷ []
unfolding step_at cube_at of_bits
no_corners = refl

-- the code's answers by their names
named : map standing (Ok first ∷ Err past.Part ∷ Err past.End ∷ []) ≡ cube first ∷ part ∷ end ∷ []
named = refl
