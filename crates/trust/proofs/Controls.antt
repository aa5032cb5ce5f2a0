-- That the definitions say something, by computation: faces whose answer is sure, turned or not known, with either answer, and each refusal. Values are written
-- as bits. Assumes nothing.
use mathlib.Core.Path.{◌≡◌, refl}
use mathlib.Core.Bool.{true, false}
use mathlib.Core.List.{List, [], ◌∷◌, map}
use Prim.Native.Nat.{ℕ}
use lib.IntN.{ℤ, pos, negsuc}
use lib.Ieee.{of_bits, neg, sub, mul, lt, eq, le, of_int}
use Rattle.binary32.specs.Range.{in_range}
use Rattle.binary32.specs.Wholes.{whole_of}
use Rattle.cube.specs.declared.Cube.{Cube}
use Rattle.cube.specs.Corners.{corners, value_at, corner_of, all_finite, cube}
use Rattle.face.specs.Face.{face_corners, face_corner, rule, face_by, face_of, test_face_of}
use Rattle.face.specs.Laws.{up_and_down, alternate}
use Rattle.face.specs.TrueJoin.{true_answer}
use Rattle.trust.specs.declared.Trust.TheVariants.{Sure, Turned, Unknown}
use Rattle.trust.specs.Trust.{turned_of, trust_of, Said, told, refused, trust_face_of}

record Test : Type 0 where
  q : Cube
  face : ℤ
  says : Said

abbrev test : Cube → ℤ → Said → Test
test q n s = record { q = q; face = n; says = s }

-- a, b, c and d of face 5, with -1 elsewhere
abbrev low : ℕ → ℕ → ℕ → ℕ → Cube
low a b c d = cube a d c b 0xbf800000 0xbf800000 0xbf800000 0xbf800000

tests : List Test
tests =
    -- no tie: E above zero and below it, both signs of the face
    test (low 0x40000000 0xbf800000 0x40000000 0xbf800000) (pos 5) (told true Sure)
    ∷ test (low 0x40000000 0xbf800000 0x40000000 0xbf800000) (negsuc 4) (told false Sure)
    ∷ test (low 0x3f800000 0xc0000000 0x3f800000 0xc0000000) (pos 5) (told false Sure)
    ∷ test (low 0x3f800000 0xc0000000 0x3f800000 0xc0000000) (negsuc 4) (told true Sure)
    -- a tie that the exact sign turns, E = 2 ^ -24 with a below zero, and one that it does not
    ∷ test (low 0xba000000 0x39800000 0xb9800000 0x39800000) (pos 5) (told true Turned)
    ∷ test (low 0xba000000 0x39800000 0xb9800000 0x39800000) (negsuc 4) (told false Turned)
    ∷ test (low 0x3a000000 0xb9800000 0x39800000 0xb9800000) (pos 5) (told true Sure)
    ∷ test (low 0x39800000 0xba000000 0x39800000 0xb9800000) (pos 5) (told true Turned)
    -- both products round to 16777224: E is 2
    ∷ test (low 0xc5045000 0x42e20000 0xc5f7a800 0x4810fdc0) (pos 5) (told true Turned)
    -- E is 0: the exact sign says nothing
    ∷ test (low 0x3f800000 0xbf800000 0x3f800000 0xbf800000) (pos 5) (told true Sure)
    ∷ test (low 0x3f800000 0xbf800000 0x3f800000 0xbf800000) (negsuc 4) (told false Sure)
    -- not known: the signs do not alternate, a value is zero, one step below the range, one step above it
    ∷ test (low 0x3f800000 0x3f800000 0x3f800000 0xbf800000) (pos 5) (told true Unknown)
    ∷ test (low 0x3f800000 0 0x3f800000 0xbf800000) (negsuc 4) (told false Unknown)
    ∷ test (low 0x358637bc 0xbf800000 0x3f800000 0xbf800000) (pos 5) (told false Unknown)
    ∷ test (low 0x358637bd 0xbf800000 0x3f800000 0xbf800000) (pos 5) (told false Sure)
    ∷ test (low 0x5f000001 0xbf800000 0x3f800000 0xbf800000) (pos 5) (told true Unknown)
    ∷ test (low 0x5f000000 0xbf800000 0x3f800000 0xbf800000) (pos 5) (told true Sure)
    -- another face: corners 4, 7, 6 and 5, whatever stands on the others
    ∷ test (cube 0 0x00000001 0x7f7fffff 0xbf800000 0x3f800000 0xc0000000 0x3f800000 0xc0000000) (pos 6) (told false Sure)
    -- refusal 4 comes before 3, and 3 looks at corners off the face
    ∷ test (cube 0x7fc00000 0 0 0 0 0 0 0) (pos 0) (refused 4)
    ∷ test (low 0x40000000 0xbf800000 0x40000000 0xbf800000) (negsuc 6) (refused 4)
    ∷ test (cube 0x40000000 0xbf800000 0x40000000 0xbf800000 0 0 0 0x7f800000) (pos 5) (refused 3)
    ∷ []

tests_hold : map (λ t. trust_face_of t.q t.face) tests ≡ map (λ t. t.says) tests
unfolding tests trust_face_of trust_of turned_of test_face_of face_of face_by rule face_corner face_corners corner_of value_at corners all_finite alternate up_and_down in_range true_answer whole_of of_bits neg sub mul lt eq le of_int
tests_hold = refl
