-- Document 01, 'Face test', over any kind of number, and what the public routine answers. Definitions only.
use Rattle.std.specs.Prelude.{ℕ, Bool, cond, ◌&&◌, List, [], ◌∷◌, ℤ, pos, nat_abs, leb, get_or, Result, Ok, Err}
use Rattle.std.specs.Int.Signed.{lt_z}
use Rattle.binary32.specs.Numbers.{Numbers, f32}
use Rattle.cube.specs.declared.Cube.{Cube}
use Rattle.cube.specs.Corners.{corner_of, all_finite}
use Rattle.cube.specs.Refusals.{refusal_number}
use Rattle.cube.specs.declared.Refusal.{Refusal}

-- corners a, b, c, d by |face|; there is no face 0
unfoldable pub face_corners : List (List ℕ)
face_corners =
    []
    ∷ (0 ∷ 4 ∷ 5 ∷ 1 ∷ [])
    ∷ (1 ∷ 5 ∷ 6 ∷ 2 ∷ [])
    ∷ (2 ∷ 6 ∷ 7 ∷ 3 ∷ [])
    ∷ (3 ∷ 7 ∷ 4 ∷ 0 ∷ [])
    ∷ (0 ∷ 3 ∷ 2 ∷ 1 ∷ [])
    ∷ (4 ∷ 7 ∷ 6 ∷ 5 ∷ [])
    ∷ []

-- corner a (k = 0), b, c or d of a face
unfoldable pub face_corner : ℤ → ℕ → ℕ
face_corner n k = get_or (get_or face_corners (nat_abs n) []) k 0

abbrev pub is_positive : ℤ → Bool
is_positive n = lt_z (pos 0) n

module _ (K : Numbers) where
  open K use {N, minus, times, small, tied, not_below}

  -- val = a×c - b×d. A tie: the answer is face > 0. Otherwise: (face × a) × val >= 0
  unfoldable pub rule : ℤ → N → N → N → N → Bool
  rule n a b c d =
      let val = minus (times a c) (times b d) in
      cond (tied val) (is_positive n) (not_below (times (times (small n) a) val))

  -- the answer for a cube's corner values and a signed face number
  unfoldable pub face_by : (ℕ → N) → ℤ → Bool
  face_by corner n = rule n (corner (face_corner n 0)) (corner (face_corner n 1)) (corner (face_corner n 2)) (corner (face_corner n 3))

unfoldable pub face_of : Cube → ℤ → Bool
face_of q n = face_by f32 (corner_of q) n

-- ---- the public routine: refusal 4, then 3

abbrev pub is_face : ℤ → Bool
is_face n = leb 1 (nat_abs n) && leb (nat_abs n) 6

pub data Said : Type 0 where
  answer : Bool → Said
  refused : ℕ → Said

-- the answers of the code by document 01's values and numbers
abbrev pub said : Result Bool Refusal → Said
said (Ok b) = answer b
said (Err why) = refused (refusal_number why)

unfoldable pub test_face_of : Cube → ℤ → Said
test_face_of q n = cond (is_face n) (cond (all_finite q) (answer (face_of q n)) (refused 3)) (refused 4)
