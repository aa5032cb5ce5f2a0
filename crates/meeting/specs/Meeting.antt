-- Term 3: two cubes that meet at a face (1 with 3, 2 with 4, 5 with 6), with the same four alternating values there, each magnitude from
-- 1e-6 as an f32 to 2 ^ 63: their face answers are equal exactly when the two signed face numbers have the same sign, whatever stands off
-- that face. Below it, what the routine that compares two faces says. Definitions only.
use Rattle.std.specs.Prelude.{◌≡◌, ◌↔◌, Bool, true, false, cond, ◌&&◌, ◌||◌, List, [], ◌∷◌, map, ℕ, T, eqb, ℤ, nat_abs, get_or, Float, Option, Some, None, Result, Ok, Err}
use Rattle.std.specs.Bool.{beq}
use Rattle.std.specs.Float.Ieee.{eq}
use Rattle.cube.specs.declared.Cube.{Cube}
use Rattle.cube.specs.Corners.{corner_of, all_finite}
use Rattle.cube.specs.declared.Refusal.{Refusal}
use Rattle.cube.specs.Refusals.{refusal_number}
use Rattle.face.specs.Face.{face_corners, face_corner, face_of, is_face, is_positive}
use Rattle.face.specs.Laws.{alternate}

-- a cube's values at some corners
abbrev pub values_at : Cube → List ℕ → List Float
values_at k = map (corner_of k)

-- equal as values: IEEE equality, value by value
unfoldable pub same_values : List Float → List Float → Bool
same_values [] [] = true
same_values [] (y ∷ ys) = false
same_values (x ∷ xs) [] = false
same_values (x ∷ xs) (y ∷ ys) = eq x y && same_values xs ys

-- n is f and p is g, face numbers without their signs, and the corners of k's face f have the values of l's corners cs, in order
unfoldable pub meet_at : Cube → ℕ → Cube → ℕ → ℕ → ℕ → List ℕ → Bool
meet_at k n l p f g cs = eqb n f && (eqb p g && same_values (values_at k (get_or face_corners f [])) (values_at l cs))

-- Where two cubes meet, 1's corners are the other's 3,7,6,2; 2's are 0,4,7,3; 5's are 4,7,6,5, in those orders.
abbrev pub others_of_1 : List ℕ
others_of_1 = 3 ∷ 7 ∷ 6 ∷ 2 ∷ []

abbrev pub others_of_2 : List ℕ
others_of_2 = 0 ∷ 4 ∷ 7 ∷ 3 ∷ []

abbrev pub others_of_5 : List ℕ
others_of_5 = 4 ∷ 7 ∷ 6 ∷ 5 ∷ []

-- two cubes meet at a face: 1 with 3, 2 with 4, 5 with 6
unfoldable pub meet : Cube → ℕ → Cube → ℕ → Bool
meet k n l p = meet_at k n l p 1 3 others_of_1 || (meet_at k n l p 2 4 others_of_2 || meet_at k n l p 5 6 others_of_5)

-- the values of a face alternate, in the range
unfoldable pub alternate_at : Cube → ℤ → Bool
alternate_at k n = alternate (corner_of k (face_corner n 0)) (corner_of k (face_corner n 1)) (corner_of k (face_corner n 2)) (corner_of k (face_corner n 3))

-- term 3's premises, with face 1, 2 or 5 in the first cube
unfoldable pub joined : Cube → ℤ → Cube → ℤ → Bool
joined k n l p = meet k (nat_abs n) l (nat_abs p) && alternate_at k n

-- term 3, with face 1, 2 or 5 in the first cube. With 3, 4 or 6 there it follows: name the other cube first, and turn both equations round (`other_order`,
-- proofs/Agreement.antt)
abbrev pub FacesAgree : Type 0
FacesAgree = (k : Cube) (n : ℤ) (l : Cube) (p : ℤ) → T (joined k n l p) → (face_of k n ≡ face_of l p) ↔ (is_positive n ≡ is_positive p)

-- ---- the routine: refusal 4, then 3; faces that do not meet so are apart; of two that do, whether the answers are equal

pub data Said : Type 0 where
  equal : Bool → Said
  apart : Said
  refused : ℕ → Said

-- the answers of the code by document 01's values and numbers
abbrev pub said : Result (Option Bool) Refusal → Said
said (Ok (Some b)) = equal b
said (Ok None) = apart
said (Err why) = refused (refusal_number why)

unfoldable pub compared_of : Cube → ℤ → Cube → ℤ → Said
compared_of k n l p =
    cond (is_face n && is_face p)
    (cond (all_finite k && all_finite l)
    (cond (joined k n l p || joined l p k n) (equal (beq (face_of k n) (face_of l p))) apart)
    (refused 3))
    (refused 4)

-- term 3 of a comparison's result: the answers are equal exactly when the two numbers have the same sign
abbrev pub AgreeBySign : ℤ → ℤ → Result (Option Bool) Refusal → Type 0
AgreeBySign n p r = (b : Bool) → r ≡ Ok (Some b) → (b ≡ true) ↔ (is_positive n ≡ is_positive p)
