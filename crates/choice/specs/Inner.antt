-- Document 02, 'Change 12': after refusals 1, 2 and 3 no inner number leaves its table: sub-configurations of cases 7 and 13, offsets, the picked edge, the
-- ambiguous face, the case that the interior test is made for. Definitions only.
use Rattle.std.specs.Prelude.{ℕ, ◌-◌, ◌≤◌, ◌<◌, ◌≡◌, Bool, true, ◌&&◌, List, [], ◌∷◌, map, ℤ, pos, negsuc, T, leb, ltb, eqb, get_or, length}
use Rattle.cube.specs.declared.Cube.{Cube}
use Rattle.cube.specs.Bits.{number_of}
use Rattle.face.specs.Face.{is_face, face_of}
use Rattle.notes.specs.Notes.{no_notes, tests_of}
use Rattle.interior.specs.Pick.{are_ambiguous_faces, Diagonal, pick_with}
use Rattle.tilings.specs.Tilings.{is_one_of, columns_of}
use Rattle.tilings.specs.Plan.{Question, face, inside, inside13, Plan, nothing, untiled, tile, ask, run}
use Rattle.tilings.specs.Answers.{answers_of}
use Rattle.family_13.specs.Tables.{SUB_CONFIG_13}
use Rattle.family_13.specs.Plans.{part_of13, part_at13, faces13, plan13}
use Rattle.families.specs.Plans.{parts7, part7, faces7, plan7, plan_of}
use Rattle.choice.specs.Choice.{nat_of, refusal_of}

-- a signed face is one of the six; the interior test is made for a case that it knows, and for ambiguous faces 1 to 6; the case-13 test for case 13
abbrev asks_for : ℕ → Question → Bool
asks_for case (face n) = is_face n
asks_for case (inside ns s) = is_one_of case (4 ∷ 6 ∷ 7 ∷ 10 ∷ 12 ∷ []) && are_ambiguous_faces ns
asks_for case inside13 = eqb case 13

-- whatever the answers, a case's plan hands on such questions alone
unfoldable pub hands_on : ℕ → Plan → Bool
hands_on case nothing = true
hands_on case (untiled c sub) = true
hands_on case (tile code row column) = true
hands_on case (ask question p r) = asks_for case question && (hands_on case p && hands_on case r)

-- the offset of a number of SUB_CONFIG_13 in its table: no less than 0, and one of the table's columns; -1 has none
unfoldable pub is_offset : ℤ → Bool
is_offset (pos n) = let p = part_of13 n in leb p.first n && ltb (n - p.first) (columns_of p.code)
is_offset (negsuc n) = eqb n 0

-- the sub-configuration of a cube, the number that the answers to some faces make: it is below n, and what follows it, with a test counted for each face, is what
-- the plan leads to
pub record SubBelow (q : Cube) (faces : List ℤ) (n : ℕ) (plan : Plan) (next : ℕ → Plan) : Type 0 where
  pub below : number_of (map (face_of q) faces) < n
  pub follows : run (answers_of q) plan no_notes ≡ run (answers_of q) (next (number_of (map (face_of q) faces))) (tests_of (length faces))

pub record InnerNumbers : Type 0 where
  -- the sub-configuration of case 7 is one of the places of its list, that of case 13 one of SUB_CONFIG_13's
  pub sub7 : (q : Cube) (c : ℕ) → SubBelow q (faces7 c) (length (parts7 c)) (plan7 c) (part7 c)
  pub sub13 : (q : Cube) (c : ℕ) → SubBelow q (faces13 c) (length SUB_CONFIG_13) (plan13 c) (part_at13 c)
  pub offsets : (sub : ℕ) → sub < length SUB_CONFIG_13 → T (is_offset (get_or SUB_CONFIG_13 sub (negsuc 0)))
  -- whichever pairs match
  pub edges : (matches : Diagonal → Bool) (n : ℕ) → n ≤ 6 → (pick_with matches n).edge < 12
  pub asked : (case configuration : ℤ) (q : Cube) → refusal_of case configuration q ≡ 0 → T (hands_on (nat_of case) (plan_of (nat_of case) (nat_of configuration)))
