-- Term 3, `FacesAgree`: whatever stands off the face where two cubes meet, their answers are equal exactly when the face numbers' signs are. Assumes nothing.
use mathlib.Core.Path.{◌≡◌, refl, sym, ◌∙◌}
use mathlib.Core.Logic.{◌↔◌, ◌⊎◌, inl, inr}
use mathlib.Core.Bool.{Bool, true, false, ◌&&◌, ◌||◌, beq}
use mathlib.Core.List.{List, [], ◌∷◌}
use Prim.Native.Nat.{ℕ}
use lib.Dec.{T, leb, eqb, eqb→eq}
use lib.IntN.{ℤ, nat_abs}
use lib.ListN.{get_or}
use lib.Ieee.{Float, eq}
use lib.Ieee.Fits.{and_l, and_r}
use Rattle.binary32.specs.Numbers.{f32}
use Rattle.binary32.proofs.Bools.{either, all_four, beq_true}
use Rattle.binary32.proofs.Same.{Same, eq→same}
use Rattle.cube.specs.declared.Cube.{Cube}
use Rattle.cube.specs.Corners.{corner_of}
use Rattle.face.specs.Face.{face_corners, face_corner, rule, face_by, face_of, is_face, is_positive}
use Rattle.face.specs.Laws.{alternate}
use Rattle.face.proofs.Decision.{Square, square, has_size, turned, rule_same, kept, decided, kept_turned}
use Rattle.meeting.specs.Meeting.{values_at, same_values, meet_at, others_of_1, others_of_2, others_of_5, meet, alternate_at, joined, FacesAgree}

-- ---- two answers by one Bool of the values
cancel : (s p q : Bool) → beq (beq p s) (beq q s) ≡ beq p q
cancel true true true = refl
cancel true true false = refl
cancel true false true = refl
cancel true false false = refl
cancel false true true = refl
cancel false true false = refl
cancel false false true = refl
cancel false false false = refl

module _ (n p : ℤ) (tn : T (is_face n)) (tp : T (is_face p)) (a b c d : Float) {s : Bool} (q : Square s a b c d) where
  same_side : beq (rule f32 n a b c d) (rule f32 p a b c d) ≡ beq (is_positive n) (is_positive p)
  same_side = rw (decided n tn a b c d q, decided p tp a b c d q) (cancel (kept a b c d) (is_positive n) (is_positive p))

  other_side : beq (rule f32 n a b c d) (rule f32 p d c b a) ≡ beq (is_positive n) (is_positive p)
  other_side = rw (decided n tn a b c d q, decided p tp d c b a (turned q), ← kept_turned a b c d q) (cancel (kept a b c d) (is_positive n) (is_positive p))

-- ---- a face by its number's size
abbrev entry : ℕ → ℕ → ℕ
entry f j = get_or (get_or face_corners f []) j 0

module _ (k : Cube) (n : ℤ) (f : ℕ) (e : nat_abs n ≡ f) where
  face_at : face_of k n ≡ rule f32 n (corner_of k (entry f 0)) (corner_of k (entry f 1)) (corner_of k (entry f 2)) (corner_of k (entry f 3))
  unfolding face_of face_by face_corner
  face_at = rw e

  alternate_of : T (alternate_at k n) → T (alternate (corner_of k (entry f 0)) (corner_of k (entry f 1)) (corner_of k (entry f 2)) (corner_of k (entry f 3)))
  unfolding alternate_at face_corner
  alternate_of t = rw e at t

  face_number : T (leb 1 f && leb f 6) → T (is_face n)
  face_number t = rw e t

-- ---- the three pairs
module _ (k : Cube) (n : ℤ) (l : Cube) (p : ℤ) (f g : ℕ) (en : nat_abs n ≡ f) (ep : nat_abs p ≡ g) (tf : T (leb 1 f && leb f 6)) (tg : T (leb 1 g && leb g 6)) (t : T (alternate_at k n)) where
  abbrev a : Float
  a = corner_of k (entry f 0)

  abbrev b : Float
  b = corner_of k (entry f 1)

  abbrev c : Float
  c = corner_of k (entry f 2)

  abbrev d : Float
  d = corner_of k (entry f 3)

  -- the other cube reads values that are the same as w, x, y, z
  reads : (w x y z : Float) → Same w (corner_of l (entry g 0)) → Same x (corner_of l (entry g 1)) → Same y (corner_of l (entry g 2)) → Same z (corner_of l (entry g 3))
      → beq (rule f32 n a b c d) (rule f32 p w x y z) ≡ beq (is_positive n) (is_positive p)
      → beq (face_of k n) (face_of l p) ≡ beq (is_positive n) (is_positive p)
  reads w x y z sw sx sy sz h =
      (λ i. beq (face_at k n f en i) ((face_at l p g ep ∙ sym (rule_same p (face_number l p g ep tg) w x y z _ _ _ _ sw sx sy sz)) i)) ∙ h

  -- it reads them as d, c, b, a
  across : T (eq d (corner_of l (entry g 0))) → T (eq c (corner_of l (entry g 1))) → T (eq b (corner_of l (entry g 2))) → T (eq a (corner_of l (entry g 3)))
      → beq (face_of k n) (face_of l p) ≡ beq (is_positive n) (is_positive p)
  across ed ec eb ea =
      let q = (square a b c d (alternate_of k n f en t)).1 in
      reads d c b a (eq→same d _ (has_size q.at_d) ed) (eq→same c _ (has_size q.at_c) ec) (eq→same b _ (has_size q.at_b) eb) (eq→same a _ (has_size q.at_a) ea)
      (other_side n p (face_number k n f en tf) (face_number l p g ep tg) a b c d q)

  -- it reads them as a, b, c, d
  along : T (eq a (corner_of l (entry g 0))) → T (eq b (corner_of l (entry g 1))) → T (eq c (corner_of l (entry g 2))) → T (eq d (corner_of l (entry g 3)))
      → beq (face_of k n) (face_of l p) ≡ beq (is_positive n) (is_positive p)
  along ea eb ec ed =
      let q = (square a b c d (alternate_of k n f en t)).1 in
      reads a b c d (eq→same a _ (has_size q.at_a) ea) (eq→same b _ (has_size q.at_b) eb) (eq→same c _ (has_size q.at_c) ec) (eq→same d _ (has_size q.at_d) ed)
      (same_side n p (face_number k n f en tf) (face_number l p g ep tg) a b c d q)

each : (w x y z w' x' y' z' : Float) → T (same_values (w ∷ x ∷ y ∷ z ∷ []) (w' ∷ x' ∷ y' ∷ z' ∷ [])) → T (eq w w') × T (eq x x') × T (eq y y') × T (eq z z')
unfolding same_values
each w x y z w' x' y' z' t = all_four (eq w w') (eq x x') (eq y y') (eq z z') t

module _ (k : Cube) (n : ℤ) (l : Cube) (p : ℤ) where
  abbrev met : ℕ → ℕ → List ℕ → Bool
  met f g cs = meet_at k (nat_abs n) l (nat_abs p) f g cs

  met_at : (f g : ℕ) (cs : List ℕ) → T (met f g cs) → (nat_abs n ≡ f) × (nat_abs p ≡ g) × T (same_values (values_at k (get_or face_corners f [])) (values_at l cs))
  unfolding meet_at
  met_at f g cs t =
      let same = same_values (values_at k (get_or face_corners f [])) (values_at l cs) in
      let rest = and_r (eqb (nat_abs n) f) (eqb (nat_abs p) g && same) t in
      (eqb→eq (nat_abs n) f (and_l (eqb (nat_abs n) f) (eqb (nat_abs p) g && same) t), eqb→eq (nat_abs p) g (and_l (eqb (nat_abs p) g) same rest), and_r (eqb (nat_abs p) g) same rest)

  three : T (meet k (nat_abs n) l (nat_abs p)) → T (met 1 3 others_of_1) ⊎ (T (met 2 4 others_of_2) ⊎ T (met 5 6 others_of_5))
  unfolding meet
  three t =
      elim (either (met 1 3 others_of_1) (met 2 4 others_of_2 || met 5 6 others_of_5) t) [
        | inl u ↦ inl u
        | inr u ↦ inr (either (met 2 4 others_of_2) (met 5 6 others_of_5) u)
      ]

  pub by_signs : T (joined k n l p) → beq (face_of k n) (face_of l p) ≡ beq (is_positive n) (is_positive p)
  unfolding joined face_corners
  by_signs j =
      let t = and_r (meet k (nat_abs n) l (nat_abs p)) (alternate_at k n) j in
      elim (three (and_l (meet k (nat_abs n) l (nat_abs p)) (alternate_at k n) j)) [
        | inl u ↦
            let m = met_at 1 3 others_of_1 u in
            let h = each _ _ _ _ _ _ _ _ m.2 in
            across k n l p 1 3 m.0 m.1 tt tt t h.3 h.2 h.1 h.0
        | inr v ↦
            elim v [
              | inl u ↦
                  let m = met_at 2 4 others_of_2 u in
                  let h = each _ _ _ _ _ _ _ _ m.2 in
                  across k n l p 2 4 m.0 m.1 tt tt t h.3 h.2 h.1 h.0
              | inr u ↦
                  let m = met_at 5 6 others_of_5 u in
                  let h = each _ _ _ _ _ _ _ _ m.2 in
                  along k n l p 5 6 m.0 m.1 tt tt t h.0 h.1 h.2 h.3
            ]
      ]

-- ---- as it is stated
like : (p q r s : Bool) → beq p q ≡ beq r s → p ≡ q → r ≡ s
like p q r s h e = (beq_true r s).0 (sym h ∙ (beq_true p q).1 e)

pub faces_agree : FacesAgree
faces_agree k n l p t =
    let h = by_signs k n l p t in
    (like (face_of k n) (face_of l p) (is_positive n) (is_positive p) h, like (is_positive n) (is_positive p) (face_of k n) (face_of l p) (sym h))

-- with face 3, 4 or 6 in the first cube
pub other_order : (k : Cube) (n : ℤ) (l : Cube) (p : ℤ) → T (joined l p k n) → (face_of k n ≡ face_of l p) ↔ (is_positive n ≡ is_positive p)
other_order k n l p t = let h = faces_agree l p k n t in (λ e. sym (h.0 (sym e)), λ e. sym (h.1 (sym e)))
