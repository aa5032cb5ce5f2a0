-- That the definitions say something, by computation: face tests with both answers, at a tie, on both sides of the tie limit, at a NaN and with each
-- refusal. Values are written as bits. Assumes nothing.
use mathlib.Core.Path.{◌≡◌, refl}
use mathlib.Core.Bool.{true, false}
use mathlib.Core.List.{List, [], ◌∷◌, map}
use Prim.Native.Nat.{ℕ}
use lib.IntN.{ℤ, pos, negsuc}
use lib.Ieee.{of_bits, sub, mul, lt, le, of_int}
use Rattle.cube.specs.declared.Cube.{Cube}
use Rattle.cube.specs.Corners.{corners, value_at, corner_of, all_finite, cube}
use Rattle.face.specs.Face.{face_corners, face_corner, rule, face_by, face_of, Said, answer, refused, test_face_of}

record Test : Type 0 where
  q : Cube
  face : ℤ
  says : Said

abbrev test : Cube → ℤ → Said → Test
test q n s = record { q = q; face = n; says = s }

-- a, b, c and d of face 5, with -1 elsewhere
abbrev low : ℕ → ℕ → ℕ → ℕ → Cube
low a b c d = cube a d c b 0xbf800000 0xbf800000 0xbf800000 0xbf800000

tests : List Test
tests =
    -- document 01's cubes of case 3: c0 = c2 = 2; c1 = c3 = -2; the tie; c1 = -(1 + 2 ^ -23); c2 = 1 - 2 ^ -24; and 3/12
    test (low 0x40000000 0xbf800000 0x40000000 0xbf800000) (pos 5) (answer true)
    ∷ test (low 0x3f800000 0xc0000000 0x3f800000 0xc0000000) (pos 5) (answer false)
    ∷ test (low 0x3f800000 0xbf800000 0x3f800000 0xbf800000) (pos 5) (answer true)
    ∷ test (low 0x3f800000 0xbf800000 0x3f800000 0xbf800001) (pos 5) (answer false)
    ∷ test (low 0x3f800000 0xbf800000 0x3f7fffff 0xbf800000) (pos 5) (answer true)
    ∷ test (cube 0x3f800000 0x3f800000 0x3f800000 0x3f800000 0x3f800000 0xbf800000 0x3f800000 0xbf800000) (negsuc 5) (answer false)
    -- the first five with the other sign: the tie limit itself is no tie, one step inside it is
    ∷ test (low 0x40000000 0xbf800000 0x40000000 0xbf800000) (negsuc 4) (answer false)
    ∷ test (low 0x3f800000 0xc0000000 0x3f800000 0xc0000000) (negsuc 4) (answer true)
    ∷ test (low 0x3f800000 0xbf800000 0x3f800000 0xbf800000) (negsuc 4) (answer false)
    ∷ test (low 0x3f800000 0xbf800000 0x3f800000 0xbf800001) (negsuc 4) (answer true)
    ∷ test (low 0x3f800000 0xbf800000 0x3f7fffff 0xbf800000) (negsuc 4) (answer false)
    -- both products overflow: val is a NaN
    ∷ test (low 0x5f800000 0xdf800000 0x5f800000 0xdf800000) (pos 5) (answer false)
    ∷ test (low 0x5f800000 0xdf800000 0x5f800000 0xdf800000) (negsuc 4) (answer false)
    -- a is zero: with val infinite false, with val = -1 true, whatever the sign
    ∷ test (low 0 0x5f800000 0x3f800000 0x5f800000) (negsuc 4) (answer false)
    ∷ test (low 0 0x3f800000 0x3f800000 0x3f800000) (pos 5) (answer true)
    ∷ test (low 0 0x3f800000 0x3f800000 0x3f800000) (negsuc 4) (answer true)
    -- (face × a) × val and not sign × a × val, nor face × (a × val)
    ∷ test (cube 0 1 0xbf000000 0 0 0xbf800000 0x3f800000 0) (pos 2) (answer false)
    -- refusal 4 comes before 3, and 3 looks at corners off the face
    ∷ test (cube 0x7fc00000 0 0 0 0 0 0 0) (pos 0) (refused 4)
    ∷ test (cube 0 0 0 0 0 0 0 0x7f800000) (pos 7) (refused 4)
    ∷ test (cube 0 0 0 0 0 0 0 0) (negsuc 6) (refused 4)
    ∷ test (cube 0 0 0 0 0 0 0 0) (negsuc 127) (refused 4)
    ∷ test (cube 0 0 0 0 0 0 0 0x7f800000) (pos 5) (refused 3)
    ∷ test (cube 0 0 0 0 0 0 0 0x7fc00000) (pos 5) (refused 3)
    ∷ []

tests_hold : map (λ t. test_face_of t.q t.face) tests ≡ map (λ t. t.says) tests
unfolding tests test_face_of face_of face_by rule face_corner face_corners corner_of value_at corners all_finite of_bits sub mul lt le of_int
tests_hold = refl
