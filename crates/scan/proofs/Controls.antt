-- Places and parts of `3 0 3f`, worked out by hand. Assumes nothing.
use mathlib.Core.Path.{◌≡◌, refl}
use mathlib.Core.List.{List, [], ◌∷◌}
use Prim.Native.Nat.{ℕ}
use Rattle.scan.specs.Bytes.{index_after, index_of, slice}

line : List ℕ
line = 51 ∷ 32 ∷ 48 ∷ 32 ∷ 51 ∷ 102 ∷ []

-- the first space of two, a byte that stands first, one that stands last, none, and none in an empty text
places_hold : index_of 32 line ∷ index_of 51 line ∷ index_of 102 line ∷ index_of 10 line ∷ index_of 32 [] ∷ [] ≡ 1 ∷ 0 ∷ 5 ∷ 6 ∷ 0 ∷ []
unfolding line index_of index_after
places_hold = refl

-- from the place behind the first space on and below that of the second; from the end on
parts_hold : slice 2 3 line ∷ slice 2 6 line ∷ slice 6 6 line ∷ [] ≡ (48 ∷ []) ∷ (48 ∷ 32 ∷ 51 ∷ 102 ∷ []) ∷ [] ∷ []
unfolding line slice
parts_hold = refl
