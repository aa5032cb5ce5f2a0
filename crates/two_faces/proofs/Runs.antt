-- The plans of cases 10 and 12 as the code has them. Assumes nothing.
use mathlib.Core.Path.{◌≡◌, refl}
use mathlib.Core.List.{List, [], ◌∷◌}
use Prim.Native.Nat.{ℕ, ◌-◌, ◌<◌}
use lib.Dec.{T}
use lib.IntN.{ℤ, pos, nat_abs}
use lib.ListN.{get_or}
use Rattle.cube.proofs.Table.{agree, under}
use Rattle.face.specs.Face.{is_face}
use Rattle.tilings.specs.Tables.{entry}
use Rattle.tilings.specs.Tilings as codes
use Rattle.tilings.proofs.Columns.{read, table_of}
use Rattle.two_faces.specs.declared.Tilings.{Tilings}
use Rattle.two_faces.specs.Tables.{TEST_10, TEST_12}
use Rattle.two_faces.specs.Plans.{plan_by, plan10, plan12}

-- the faces of a row as the code reads them, in its table of pairs
module _ (table : List (List ℤ)) (n c : ℕ) where
  abbrev pair : ℤ × ℤ
  pair = get_or (table_of (λ k. (entry table k 0, entry table k 1)) n) c (pos 0, pos 0)

  abbrev first : ℤ
  first = read pair.0

  abbrev second : ℤ
  second = read pair.1

-- the tilings as the code has them
abbrev tilings_10 : Tilings
tilings_10 = record {
  both = codes.TILING_10_1_1_;
  none = codes.TILING_10_1_1;
  first = codes.TILING_10_2;
  second = codes.TILING_10_2_;
  unless_inside = codes.TILING_10_1_2;
}

abbrev tilings_12 : Tilings
tilings_12 = record {
  both = codes.TILING_12_1_1_;
  none = codes.TILING_12_1_1;
  first = codes.TILING_12_2;
  second = codes.TILING_12_2_;
  unless_inside = codes.TILING_12_1_2;
}

side_10 : (c : ℕ) → c < 6 → entry TEST_10 c 2 ≡ pos 7
unfolding TEST_10
side_10 = agree (λ c. entry TEST_10 c 2) (λ c. pos 7) 6 refl

first_10 : (c : ℕ) → c < 6 → first TEST_10 6 c ≡ entry TEST_10 c 0
unfolding TEST_10
first_10 = agree (first TEST_10 6) (λ c. entry TEST_10 c 0) 6 refl

second_10 : (c : ℕ) → c < 6 → second TEST_10 6 c ≡ entry TEST_10 c 1
unfolding TEST_10
second_10 = agree (second TEST_10 6) (λ c. entry TEST_10 c 1) 6 refl

pub is_face_10 : (c : ℕ) → c < 6 → T (is_face (first TEST_10 6 c))
unfolding TEST_10
is_face_10 = under 6 (λ c. is_face (first TEST_10 6 c)) tt

pub ten : (c : ℕ) → c < 6 → (k : ℕ) → k ≡ nat_abs (first TEST_10 6 c) → plan_by (first TEST_10 6 c) (second TEST_10 6 c) (k ∷ []) tilings_10 c (5 - c) ≡ plan10 c
unfolding plan10
ten c h k e = rw (e, first_10 c h, second_10 c h, side_10 c h)

side_12 : (c : ℕ) → c < 24 → entry TEST_12 c 2 ≡ pos 7
unfolding TEST_12
side_12 = agree (λ c. entry TEST_12 c 2) (λ c. pos 7) 24 refl

first_12 : (c : ℕ) → c < 24 → first TEST_12 24 c ≡ entry TEST_12 c 0
unfolding TEST_12
first_12 = agree (first TEST_12 24) (λ c. entry TEST_12 c 0) 24 refl

second_12 : (c : ℕ) → c < 24 → second TEST_12 24 c ≡ entry TEST_12 c 1
unfolding TEST_12
second_12 = agree (second TEST_12 24) (λ c. entry TEST_12 c 1) 24 refl

pub is_face_12 : (c : ℕ) → c < 24 → T (is_face (first TEST_12 24 c))
unfolding TEST_12
is_face_12 = under 24 (λ c. is_face (first TEST_12 24 c)) tt

pub is_other_face_12 : (c : ℕ) → c < 24 → T (is_face (second TEST_12 24 c))
unfolding TEST_12
is_other_face_12 = under 24 (λ c. is_face (second TEST_12 24 c)) tt

pub twelve : (c : ℕ) → c < 24 → (k l : ℕ) → k ≡ nat_abs (first TEST_12 24 c) → l ≡ nat_abs (second TEST_12 24 c)
    → plan_by (first TEST_12 24 c) (second TEST_12 24 c) (k ∷ l ∷ []) tilings_12 c (23 - c) ≡ plan12 c
unfolding plan12
twelve c h k l e f = rw (e, f, first_12 c h, second_12 c h, side_12 c h)
