-- That term 3 says something, by computation: pairs of cubes that meet every premise, with both answers and a tie; and outside each premise a pair
-- for which its sentence is false. Values are written as bits. Assumes nothing.
use mathlib.Core.Path.{◌≡◌, refl}
use mathlib.Core.Bool.{Bool, true, false}
use mathlib.Core.List.{List, [], ◌∷◌, map}
use Prim.Native.Nat.{ℕ}
use lib.IntN.{ℤ, pos, negsuc}
use lib.Ieee.{of_bits, neg, sub, mul, lt, eq, le, of_int}
use Rattle.cube.specs.declared.Cube.{Cube}
use Rattle.cube.specs.Corners.{corners, value_at, corner_of, all_finite, cube}
use Rattle.face.specs.Face.{face_corners, face_corner, rule, face_by, face_of}
use Rattle.binary32.specs.Range.{in_range}
use Rattle.face.specs.Laws.{up_and_down, alternate}
use Rattle.meeting.specs.Meeting.{same_values, meet_at, meet, alternate_at, joined, compared_of, Said, equal, apart}

-- the values a, b, c, d at the first one's face and at the paired corners of the other, with 3 and -100 off the face
abbrev at_1 : ℕ → ℕ → ℕ → ℕ → Cube
at_1 a b c d = cube a d 0x40400000 0x40400000 b c 0x40400000 0x40400000

abbrev at_3 : ℕ → ℕ → ℕ → ℕ → Cube
at_3 a b c d = cube 0xc2c80000 0xc2c80000 d a 0xc2c80000 0xc2c80000 c b

abbrev at_2 : ℕ → ℕ → ℕ → ℕ → Cube
at_2 a b c d = cube 0x40400000 a d 0x40400000 0x40400000 b c 0x40400000

abbrev at_4 : ℕ → ℕ → ℕ → ℕ → Cube
at_4 a b c d = cube a 0xc2c80000 0xc2c80000 d b 0xc2c80000 0xc2c80000 c

abbrev at_5 : ℕ → ℕ → ℕ → ℕ → Cube
at_5 a b c d = cube a d c b 0x40400000 0x40400000 0x40400000 0x40400000

abbrev at_6 : ℕ → ℕ → ℕ → ℕ → Cube
at_6 a b c d = cube 0xc2c80000 0xc2c80000 0xc2c80000 0xc2c80000 a d c b

-- the two answers, and what the comparison says
record Pair : Type 0 where
  k : Cube
  n : ℤ
  l : Cube
  p : ℤ
  first : Bool
  second : Bool
  says : Said

abbrev pair : Cube → ℤ → Cube → ℤ → Bool → Bool → Said → Pair
pair k n l p f s t = record { k = k; n = n; l = l; p = p; first = f; second = s; says = t }

abbrev one_three : ℕ → ℕ → ℕ → ℕ → ℤ → ℤ → Bool → Bool → Said → Pair
one_three a b c d n p = pair (at_1 a b c d) n (at_3 a b c d) p

abbrev two_four : ℕ → ℕ → ℕ → ℕ → ℤ → ℤ → Bool → Bool → Said → Pair
two_four a b c d n p = pair (at_2 a b c d) n (at_4 a b c d) p

abbrev five_six : ℕ → ℕ → ℕ → ℕ → ℤ → ℤ → Bool → Bool → Said → Pair
five_six a b c d n p = pair (at_5 a b c d) n (at_6 a b c d) p

-- every premise holds: val above zero, below zero and a tie, the ends of the range, and the cubes in the other order
meeting : List Pair
meeting =
    one_three 0x40000000 0xbf800000 0x40000000 0xbf800000 (pos 1) (pos 3) true true (equal true)
    ∷ one_three 0x40000000 0xbf800000 0x40000000 0xbf800000 (pos 1) (negsuc 2) true false (equal false)
    ∷ one_three 0x3f800000 0xc0000000 0x3f800000 0xc0000000 (negsuc 0) (negsuc 2) true true (equal true)
    ∷ one_three 0x3f800000 0xc0000000 0x3f800000 0xc0000000 (negsuc 0) (pos 3) true false (equal false)
    ∷ one_three 0x358637bd 0xdf000000 0x5f000000 0xb58637bd (pos 1) (pos 3) true true (equal true)
    ∷ two_four 0xbf800000 0x40000000 0xbf800000 0x40000000 (pos 2) (pos 4) true true (equal true)
    ∷ two_four 0x3f800000 0xbf800000 0x3f800000 0xbf800000 (pos 2) (pos 4) true true (equal true)
    ∷ two_four 0x3f800000 0xbf800000 0x3f800000 0xbf800000 (negsuc 1) (negsuc 3) false false (equal true)
    ∷ five_six 0x3f800000 0xc0000000 0x3f800000 0xc0000000 (pos 5) (pos 6) false false (equal true)
    ∷ five_six 0x3f800000 0xc0000000 0x3f800000 0xc0000000 (pos 5) (negsuc 5) false true (equal false)
    ∷ pair (at_3 0x40000000 0xbf800000 0x40000000 0xbf800000) (negsuc 2) (at_1 0x40000000 0xbf800000 0x40000000 0xbf800000) (negsuc 0) false false (equal true)
    ∷ []

-- one premise fails and the comparison says so; the answers are equal with other signs, or differ with the same sign:
-- 2 ^ 64, at two kinds of pair; a subnormal; a zero; no alternation, at two kinds of pair; another value at one corner; faces that do not meet
parting : List Pair
parting =
    one_three 0x5f800000 0xdf800000 0x5f800000 0xdf800000 (pos 1) (negsuc 2) false false apart
    ∷ five_six 0x5f800000 0xdf800000 0x5f800000 0xdf800000 (pos 5) (negsuc 5) false false apart
    ∷ one_three 0x00000001 0xbf800000 0x3f800000 0xbf000000 (pos 1) (pos 3) true false apart
    ∷ one_three 0x00000000 0xbf800000 0x3f800000 0xbf800000 (pos 1) (pos 3) true false apart
    ∷ one_three 0x3f800000 0x3f800000 0xbf800000 0x3f800000 (pos 1) (pos 3) false true apart
    ∷ two_four 0x3f800000 0x3f800000 0x3f800000 0x40000000 (pos 2) (pos 4) false true apart
    ∷ pair (at_1 0x40000000 0xbf800000 0x40000000 0xbf800000) (pos 1) (at_3 0x3d800000 0xbf800000 0x40000000 0xbf800000) (pos 3) true false apart
    ∷ pair (at_1 0x40000000 0xbf800000 0x40000000 0xbf800000) (pos 1) (at_3 0x40000000 0xbf800000 0x40000000 0xbf800000) (pos 4) true false apart
    ∷ []

abbrev told : Pair → Pair
told t = record { k = t.k; n = t.n; l = t.l; p = t.p; first = face_of t.k t.n; second = face_of t.l t.p; says = compared_of t.k t.n t.l t.p }

meeting_holds : map told meeting ≡ meeting
unfolding meeting compared_of joined meet meet_at same_values alternate_at alternate up_and_down in_range face_of face_by rule face_corner face_corners corner_of value_at corners all_finite of_bits neg sub mul lt eq le of_int
meeting_holds = refl

parting_holds : map told parting ≡ parting
unfolding parting compared_of joined meet meet_at same_values alternate_at alternate up_and_down in_range face_of face_by rule face_corner face_corners corner_of value_at corners all_finite of_bits neg sub mul lt eq le of_int
parting_holds = refl
