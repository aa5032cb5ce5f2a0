-- That the definitions say something, by computation: the rotations are 24, those that quarter turns make and no reflection; the sets of each case; what belongs to a set; the faces that are tested
-- for some sets. Assumes nothing.
use mathlib.Core.Path.{◌≡◌, refl}
use mathlib.Core.Bool.{Bool, true, false, ◌&&◌}
use mathlib.Core.List.{List, [], ◌∷◌, map, foldr, ◌++◌}
use Prim.Native.Nat.{ℕ, zero, suc, ◌+◌, ◌*◌}
use lib.Dec.{eqb}
use lib.IntN.{ℤ, pos, negsuc}
use lib.ListN.{get_or, length}
use lib.Ieee.{of_bits, lt, neg, add, sub, mul, div, eq, le, is_nan, of_int}
use Rattle.std.specs.List.{flat_map, count_by}
use Rattle.cube.specs.Bits.{number_of}
use Rattle.cube.specs.Corners.{corners, value_at, corner_of, cube}
use Rattle.face.specs.Face.{face_corners, face_corner}
use Rattle.notes.specs.Notes.{no_notes}
use Rattle.tilings.specs.Tilings.{configurations, is_one_of}
use Rattle.tilings.specs.Plan.{ask_in_turn, Answers, settled, run, reach, empty}
use Rattle.two_faces.specs.Tables.{TEST_12}
use Rattle.two_faces.specs.Plans.{two_faces, plan12}
use Rattle.family_13.specs.Tables.{TEST_13, SUB_CONFIG_13}
use Rattle.family_13.specs.Plans.{parts13, last_from, tile13, part13, plan13}
use Rattle.families.specs.Tables.{TEST_3, TEST_6, TEST_4}
use Rattle.families.specs.Plans.{plan3, plan6, plans, plan_of, plan4}
use Rattle.choice.specs.Choice as Choice
use Rattle.choice.specs.Choice.{choice_of, Said, refused}
use Rattle.cube.specs.declared.Cube.{Cube}
use Rattle.edge.specs.Edge.{moves, move_of, cross_by, read_by, edge_by}
use Rattle.interior.specs.Pick.{diagonals, last_match, any_match, pick_with, pick_by}
use Rattle.interior.specs.Interior.{joined, seen_as, look_at, inside_by, inside_of}
use Rattle.signs.specs.declared.Family.{Family}
use Rattle.signs.specs.Front.{refusal_in, unmatched_in, no_zeros}
use Rattle.signs.specs.Sets.{eight, size_of, set_by, set_of}
use Rattle.signs.specs.Rotations.{offsets, ways, is_rotation, rotations}
use Rattle.signs.specs.Rule.{firsts, made, choose, in_order, rows}
use Rattle.signs.specs.Table.{families, family_at}
use Rattle.signs.specs.Asked.{asked, alternates_in, plan_by, signed_by}

-- ---- rotations, each by where it brings corners 0 to 7, as one number
octal : List ℕ → ℕ
octal [] = 0
octal (n ∷ ns) = n + 8 * octal ns

numbers : List ℕ
numbers = map octal rotations

-- first one, then the other
abbrev after : List ℕ → List ℕ → List ℕ
after r t = map (λ n. get_or t n 0) r

abbrev each : {A : Type 0} → (A → Bool) → List A → Bool
each p xs = foldr ◌&&◌ true (map p xs)

abbrev all_different : List ℕ → Bool
all_different ns = each (λ n. eqb (count_by (eqb n) ns) 1) ns

rotations_24 : length rotations ≡ 24
unfolding rotations is_rotation ways offsets
rotations_24 = refl

ways_48 : length ways ≡ 48
unfolding ways
ways_48 = refl

-- none twice, and each brings the eight corners to eight places
different : all_different numbers && each all_different rotations ≡ true
unfolding octal numbers rotations is_rotation ways offsets
different = refl

-- two of them make one of them
closed : each (λ r. each (λ t. is_one_of (octal (after r t)) numbers) rotations) rotations ≡ true
unfolding octal numbers rotations is_rotation ways offsets
closed = refl

-- a quarter turn about z, and one about x, by hand
turn_z : List ℕ
turn_z = 1 ∷ 2 ∷ 3 ∷ 0 ∷ 5 ∷ 6 ∷ 7 ∷ 4 ∷ []

turn_x : List ℕ
turn_x = 3 ∷ 2 ∷ 6 ∷ 7 ∷ 0 ∷ 1 ∷ 5 ∷ 4 ∷ []

-- so many turns after r
repeated : List ℕ → ℕ → List ℕ → List ℕ
repeated t zero r = r
repeated t (suc k) r = after (repeated t k r) t

abbrev up_to_3 : List ℕ
up_to_3 = 0 ∷ 1 ∷ 2 ∷ 3 ∷ []

-- about z, then x, then z
turns : List ℕ
turns = flat_map (λ i. flat_map (λ j. map (λ k. octal (repeated turn_z k (repeated turn_x j (repeated turn_z i eight)))) up_to_3) up_to_3) up_to_3

-- such turns are the rotations, and nothing else
by_turns : each (λ n. is_one_of n numbers) turns && each (λ n. is_one_of n turns) numbers ≡ true
unfolding turns repeated turn_z turn_x octal numbers rotations is_rotation ways offsets
by_turns = refl

-- x turned about; x and y exchanged; all three turned about
reflections : List (List ℕ)
reflections =
    (1 ∷ 0 ∷ 3 ∷ 2 ∷ 5 ∷ 4 ∷ 7 ∷ 6 ∷ [])
    ∷ (0 ∷ 3 ∷ 2 ∷ 1 ∷ 4 ∷ 7 ∷ 6 ∷ 5 ∷ [])
    ∷ (6 ∷ 7 ∷ 4 ∷ 5 ∷ 2 ∷ 3 ∷ 0 ∷ 1 ∷ [])
    ∷ []

no_reflection : map (λ r. is_one_of (octal r) numbers) reflections ≡ false ∷ false ∷ false ∷ []
unfolding reflections octal numbers rotations is_rotation ways offsets
no_reflection = refl

-- ---- the sets of the cases
-- as many as document 01 has configurations, each set in one case, once, but 0 and 255 in none
counts : 0 ∷ map (λ first. length (rows first)) firsts ≡ configurations
unfolding firsts rows in_order choose made rotations is_rotation ways offsets configurations
counts = refl

abbrev all_rows : List ℕ
all_rows = flat_map rows firsts

once_each : length all_rows ∷ count_by (eqb 0) all_rows ∷ count_by (eqb 255) all_rows ∷ [] ≡ 254 ∷ 0 ∷ 0 ∷ []
unfolding firsts rows in_order choose made rotations is_rotation ways offsets
once_each = refl

none_twice : all_different all_rows ≡ true
unfolding firsts rows in_order choose made rotations is_rotation ways offsets
none_twice = refl

-- by size, then by the dictionary: the sets of case 3, by the corners that belong
case3 : rows 5 ≡ map (λ ns. foldr ◌+◌ 0 (map (λ n. get_or (1 ∷ 2 ∷ 4 ∷ 8 ∷ 16 ∷ 32 ∷ 64 ∷ 128 ∷ []) n 0) ns)) (
    (0 ∷ 2 ∷ []) ∷ (0 ∷ 5 ∷ []) ∷ (0 ∷ 7 ∷ []) ∷ (1 ∷ 3 ∷ []) ∷ (1 ∷ 4 ∷ []) ∷ (1 ∷ 6 ∷ [])
    ∷ (2 ∷ 5 ∷ []) ∷ (2 ∷ 7 ∷ []) ∷ (3 ∷ 4 ∷ []) ∷ (3 ∷ 6 ∷ []) ∷ (4 ∷ 6 ∷ []) ∷ (5 ∷ 7 ∷ [])
    ∷ (0 ∷ 1 ∷ 2 ∷ 3 ∷ 4 ∷ 6 ∷ []) ∷ (0 ∷ 1 ∷ 2 ∷ 3 ∷ 5 ∷ 7 ∷ []) ∷ (0 ∷ 1 ∷ 2 ∷ 4 ∷ 5 ∷ 7 ∷ []) ∷ (0 ∷ 1 ∷ 2 ∷ 5 ∷ 6 ∷ 7 ∷ [])
    ∷ (0 ∷ 1 ∷ 3 ∷ 4 ∷ 5 ∷ 6 ∷ []) ∷ (0 ∷ 1 ∷ 3 ∷ 4 ∷ 6 ∷ 7 ∷ []) ∷ (0 ∷ 2 ∷ 3 ∷ 4 ∷ 5 ∷ 7 ∷ []) ∷ (0 ∷ 2 ∷ 3 ∷ 5 ∷ 6 ∷ 7 ∷ [])
    ∷ (0 ∷ 2 ∷ 4 ∷ 5 ∷ 6 ∷ 7 ∷ []) ∷ (1 ∷ 2 ∷ 3 ∷ 4 ∷ 5 ∷ 6 ∷ []) ∷ (1 ∷ 2 ∷ 3 ∷ 4 ∷ 6 ∷ 7 ∷ []) ∷ (1 ∷ 3 ∷ 4 ∷ 5 ∷ 6 ∷ 7 ∷ [])
    ∷ [])
unfolding rows in_order choose made rotations is_rotation ways offsets
case3 = refl

-- ---- what belongs: the least value above 0, the last finite one and infinity; a zero of either sign, a NaN, the least below 0 and -infinity do not
belongs : map set_of
    (cube 1 0 0x80000000 0x7fc00000 0x80000001 0xff800000 0xbf800000 0xff7fffff
    ∷ cube 0 0x7f7fffff 0x7f800000 0 0x80000000 0 0x00800000 0x3f800000
    ∷ [])
    ≡ 1 ∷ 198 ∷ []
unfolding set_of set_by corner_of value_at corners of_bits lt number_of
belongs = refl

-- ---- the faces that are tested, from document 01's tables
abbrev answered : Bool → Answers
answered b = record { faces = λ n. b; insides = λ ns s. record { hit = b; notes = no_notes }; insides13 = b }

abbrev asked_for : Bool → ℕ → List ℤ
asked_for b set = asked (answered b) (plan_by (family_at set))

-- sets 5 and 250, case 3 (TEST_3, rows 0 and 23), 21 and 234, case 6 (TEST_6, rows 2 and 45), 30, case 12 (TEST_12, row 12), 165, case 13 (TEST_13, row 0), and set 1, which asks nothing
tested : map (asked_for true) (5 ∷ 250 ∷ 21 ∷ 234 ∷ 30 ∷ 165 ∷ 1 ∷ [])
    ≡ (pos 5 ∷ [])
    ∷ (negsuc 4 ∷ [])
    ∷ (pos 5 ∷ [])
    ∷ (negsuc 4 ∷ [])
    ∷ (pos 4 ∷ pos 1 ∷ [])
    ∷ (pos 1 ∷ pos 2 ∷ pos 3 ∷ pos 4 ∷ pos 5 ∷ pos 6 ∷ [])
    ∷ []
    ∷ []
unfolding families family_at asked plan_of plans plan3 plan6 two_faces plan12 parts13 last_from tile13 part13 plan13 ask_in_turn TEST_3 TEST_6 TEST_12 TEST_13 SUB_CONFIG_13
tested = refl

-- and where every answer is no
tested_no : map (asked_for false) (5 ∷ 21 ∷ 30 ∷ []) ≡ (pos 5 ∷ []) ∷ (pos 5 ∷ []) ∷ (pos 4 ∷ pos 1 ∷ []) ∷ []
unfolding families family_at asked plan_of plans plan3 plan6 two_faces plan12 ask_in_turn TEST_3 TEST_6 TEST_12
tested_no = refl

-- faces 0 to 7, of which 1 to 6 are faces: of set 5 face 5 alternates, of 165 all six, of 3 and 255 none
alternating : map (λ set. map (alternates_in set) (0 ∷ 1 ∷ 2 ∷ 3 ∷ 4 ∷ 5 ∷ 6 ∷ 7 ∷ [])) (5 ∷ 165 ∷ 3 ∷ 255 ∷ [])
    ≡ (false ∷ false ∷ false ∷ false ∷ false ∷ true ∷ false ∷ false ∷ [])
    ∷ (false ∷ true ∷ true ∷ true ∷ true ∷ true ∷ true ∷ false ∷ [])
    ∷ (false ∷ false ∷ false ∷ false ∷ false ∷ false ∷ false ∷ false ∷ [])
    ∷ (false ∷ false ∷ false ∷ false ∷ false ∷ false ∷ false ∷ false ∷ [])
    ∷ []
unfolding alternates_in face_corner face_corners
alternating = refl

sizes : map size_of (0 ∷ 5 ∷ 30 ∷ 250 ∷ 255 ∷ []) ≡ 0 ∷ 2 ∷ 4 ∷ 6 ∷ 8 ∷ []
sizes = refl

-- ---- a corner of 0 can leave every pick without a match: c0 = 0, c6 = -0, others 1, by the table case 4, configuration 7
zeros : Cube
zeros = cube 0 0x3f800000 0x3f800000 0x3f800000 0x3f800000 0x3f800000 0x80000000 0x3f800000

abbrev chosen_for : Cube → Family → ℕ
chosen_for q f = (choice_of f.case f.configuration q).notes.unmatched

zeros_unmatched : chosen_for zeros (family_at (set_of zeros)) ≡ 3
unfolding zeros set_of set_by families family_at choice_of run settled plan_of plans plan4 TEST_4 inside_of inside_by joined look_at seen_as pick_by pick_with last_match any_match diagonals edge_by read_by cross_by move_of moves corner_of value_at corners of_bits neg add sub mul div lt eq le is_nan of_int number_of
zeros_unmatched = refl

-- ---- what the front's laws read
-- the least values on both sides of 0 are no zeros, a zero of either sign is one
zeros_told : map no_zeros (cube 1 0x80000001 1 1 1 1 1 0x3f800000 ∷ cube 1 1 1 0 1 1 1 1 ∷ cube 1 1 1 1 1 1 1 0x80000000 ∷ []) ≡ true ∷ false ∷ false ∷ []
unfolding no_zeros corners of_bits eq
zeros_told = refl

answers : List Said
answers = Choice.made (reach empty (record { unsettled = 1; unmatched = 2; readings = 4 })) ∷ refused 3 ∷ []

answers_told : map refusal_in answers ++ map unmatched_in answers ≡ 0 ∷ 3 ∷ 2 ∷ 0 ∷ []
unfolding answers
answers_told = refl

-- the sign: above 0 up to four corners, below from five on; 0 and 7 are no faces
signs_told : map (signed_by 5) (pos 5 ∷ negsuc 4 ∷ pos 0 ∷ pos 7 ∷ []) ++ map (signed_by 30) (pos 4 ∷ negsuc 3 ∷ []) ++ map (signed_by 250) (pos 5 ∷ negsuc 4 ∷ [])
    ≡ true ∷ false ∷ false ∷ false ∷ true ∷ false ∷ false ∷ true ∷ []
signs_told = refl
