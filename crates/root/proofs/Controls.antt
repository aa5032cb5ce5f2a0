-- The definition at patterns whose roots are known: computed, so that it is seen to be no idle one. Assumes nothing.
use mathlib.Core.Path.{◌≡◌, refl}
use mathlib.Core.List.{[], ◌∷◌, map}
use lib.Ieee.{size, units, of_bits, to_bits}
use Rattle.root.specs.Root.{root_within, whole_root, root_units, root_of, root_bits}

whole_roots : map whole_root (0 ∷ 1 ∷ 3 ∷ 4 ∷ 8 ∷ 9 ∷ 99 ∷ 100 ∷ []) ≡ 0 ∷ 1 ∷ 1 ∷ 2 ∷ 2 ∷ 3 ∷ 9 ∷ 10 ∷ []
unfolding whole_root root_within size
whole_roots = refl

-- 1, 2, 4 and the next after 4; the smallest and the largest subnormal value, the smallest and the largest normal one
positive_roots : map root_bits (0x3f80_0000 ∷ 0x4000_0000 ∷ 0x4080_0000 ∷ 0x4080_0001 ∷ 0x0000_0001 ∷ 0x007f_ffff ∷ 0x0080_0000 ∷ 0x7f7f_ffff ∷ [])
    ≡ 0x3f80_0000 ∷ 0x3fb5_04f3 ∷ 0x4000_0000 ∷ 0x4000_0000 ∷ 0x1a35_04f3 ∷ 0x1fff_ffff ∷ 0x2000_0000 ∷ 0x5f7f_ffff ∷ []
unfolding root_bits root_of root_units whole_root root_within of_bits to_bits units size
positive_roots = refl

-- the zeros and +infinity; -infinity, -1, the value next below zero, and NaNs of either sign
special_roots : map root_bits (0 ∷ 0x8000_0000 ∷ 0x7f80_0000 ∷ 0xff80_0000 ∷ 0xbf80_0000 ∷ 0x8000_0001 ∷ 0x7fc0_0000 ∷ 0xffc0_0000 ∷ 0x7f80_0001 ∷ [])
    ≡ 0 ∷ 0x8000_0000 ∷ 0x7f80_0000 ∷ 0x7fc0_0000 ∷ 0x7fc0_0000 ∷ 0x7fc0_0000 ∷ 0x7fc0_0000 ∷ 0x7fc0_0000 ∷ 0x7fc0_0000 ∷ []
unfolding root_bits root_of of_bits to_bits size
special_roots = refl
