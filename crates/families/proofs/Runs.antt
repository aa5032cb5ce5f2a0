-- Where the plans of cases 3, 4, 6 and 7 lead, from the answers as the code has them. Assumes nothing.
use mathlib.Core.Path.{◌≡◌, refl, sym, ap}
use mathlib.Core.Bool.{Bool, true, false}
use mathlib.Core.List.{List, [], ◌∷◌, map}
use Prim.Native.Nat.{ℕ, ◌<◌, ◌≤◌}
use native.Mathlib.Omega.{arith}
use lib.IntN.{ℤ, pos, neg_ℤ, nat_abs}
use lib.Dec.{T, ltb, leb}
use lib.ListN.{get_or}
use Rattle.cube.specs.declared.Cube.{Cube}
use Rattle.cube.specs.Bits.{number_of}
use Rattle.cube.proofs.Table.{agree, under}
use Rattle.face.specs.Face.{is_face, face_of}
use Rattle.notes.specs.declared.Notes.{Notes}
use Rattle.notes.specs.Notes.{no_notes, tests_of}
use Rattle.interior.specs.declared.Sight.{Sight}
use Rattle.interior.specs.Interior.{inside_of}
use Rattle.tilings.specs.Tables.{entry}
use Rattle.tilings.specs.Tilings as Tilings
use Rattle.tilings.specs.Tilings.{has_centre}
use Rattle.tilings.specs.Plan.{Plan, Chosen, tiling, Reached, reach, settled, run}
use Rattle.tilings.specs.Answers.{answers_of, side_of}
use Rattle.tilings.proofs.Columns.{table_of, read, tabled, in_table}
use Rattle.tilings.proofs.Turns.{in_turn, code_of, column_of}
use Rattle.families.specs.Tables.{TEST_3, TEST_4, TEST_6, TEST_7}
use Rattle.families.specs.Plans.{plan3, plan4, plan6, part7, faces7, plan7, faces125}

-- a tiling in a table with one tiling a row, by what was counted
abbrev made : ℕ → ℕ → Notes → Reached
made code row m = reach (tiling code row 0 (has_centre code)) m

-- ---- case 3
pub face_3 : (c : ℕ) → c < 24 → tabled (λ k. get_or TEST_3 k (pos 0)) 24 c ≡ get_or TEST_3 c (pos 0)
unfolding TEST_3
face_3 = in_table (λ k. get_or TEST_3 k (pos 0)) 24 refl

module _ (q : Cube) (c : ℕ) (z : ℤ) (e : z ≡ get_or TEST_3 c (pos 0)) (b : Bool) (f : b ≡ face_of q z) where
  pub three_yes : b ≡ true → made Tilings.TILING_3_2 c (tests_of 1) ≡ run (answers_of q) (plan3 c) no_notes
  unfolding run plan3
  three_yes h = rw (sym e, sym f, h)

  pub three_no : b ≡ false → made Tilings.TILING_3_1 c (tests_of 1) ≡ run (answers_of q) (plan3 c) no_notes
  unfolding run plan3
  three_no h = rw (sym e, sym f, h)

-- ---- case 4
side_4 : (c : ℕ) → c < 8 → get_or TEST_4 c (pos 0) ≡ side_of (ltb c 4)
unfolding TEST_4
side_4 c h = agree (λ k. get_or TEST_4 k (pos 0)) (λ k. side_of (ltb k 4)) 8 refl c h

pub four_settled : (q : Cube) (c : ℕ) → c < 8 → (s : ℤ) → s ≡ side_of (ltb c 4) → (l : Sight) → l ≡ inside_of q faces125 s
    → settled l (made Tilings.TILING_4_1 c) (made Tilings.TILING_4_2 c) no_notes ≡ run (answers_of q) (plan4 c) no_notes
unfolding run plan4
four_settled q c h s e l f = rw (f, e, sym (side_4 c h))

-- ---- case 6
pub face_6 : (c : ℕ) → c < 48 → tabled (λ k. entry TEST_6 k 0) 48 c ≡ entry TEST_6 c 0
unfolding TEST_6
face_6 = in_table (λ k. entry TEST_6 k 0) 48 refl

side_6 : (c : ℕ) → c < 48 → entry TEST_6 c 1 ≡ side_of (ltb c 24)
unfolding TEST_6
side_6 c h = agree (λ k. entry TEST_6 k 1) (λ k. side_of (ltb k 24)) 48 refl c h

-- the face as the code reads it is a face
pub is_face_6 : (c : ℕ) → c < 48 → T (is_face (tabled (λ k. entry TEST_6 k 0) 48 c))
unfolding TEST_6
is_face_6 = under 48 (λ c. is_face (tabled (λ k. entry TEST_6 k 0) 48 c)) tt

module _ (q : Cube) (c : ℕ) (h : c < 48) (z : ℤ) (e : z ≡ entry TEST_6 c 0) (b : Bool) (f : b ≡ face_of q z) (r : Reached) where
  pub six_yes : b ≡ true → r ≡ made Tilings.TILING_6_2 c (tests_of 1) → r ≡ run (answers_of q) (plan6 c) no_notes
  unfolding run plan6
  six_yes g w = rw (w, sym e, sym f, g)

  pub six_settled : b ≡ false → (k : ℕ) → k ≡ nat_abs z → (s : ℤ) → s ≡ side_of (ltb c 24) → (l : Sight) → l ≡ inside_of q (k ∷ []) s
      → r ≡ settled l (made Tilings.TILING_6_1_1 c) (made Tilings.TILING_6_1_2 c) (tests_of 1) → r ≡ run (answers_of q) (plan6 c) no_notes
  unfolding run plan6
  six_settled g k i s j l t w = rw (w, t, i, j, e, sym (ap (face_of q) e), sym f, g, sym (side_6 c h))

-- ---- case 7
side_7 : (c : ℕ) → c < 16 → neg_ℤ (entry TEST_7 c 3) ≡ side_of (leb 8 c)
unfolding TEST_7
side_7 c h = agree (λ k. neg_ℤ (entry TEST_7 k 3)) (λ k. side_of (leb 8 k)) 16 refl c h

pub seven_settled : (q : Cube) (c sub : ℕ) → c < 16 → sub ≡ 7 → (s : ℤ) → s ≡ side_of (leb 8 c) → (l : Sight) → l ≡ inside_of q faces125 s
    → settled l (made Tilings.TILING_7_4_1 c) (made Tilings.TILING_7_4_2 c) (tests_of 3) ≡ run (answers_of q) (part7 c sub) (tests_of 3)
unfolding run part7
seven_settled q c sub h i s e l f = rw (i, f, e, sym (side_7 c h))

-- the tiling and the column that a plan comes to first
abbrev tiled_of : Plan → ℕ × ℕ
tiled_of p = (code_of p, column_of p)

-- by the sub-configuration, as the code reads them
abbrev tiled7 : ℕ → ℕ × ℕ
tiled7 sub = get_or (table_of (λ k. tiled_of (part7 0 k)) 7) sub (0, 0)

abbrev tiling7 : ℕ → ℕ → Chosen
tiling7 c sub = tiling (tiled7 sub).0 c (tiled7 sub).1 (has_centre (tiled7 sub).0)

pub seven_tabled : (q : Cube) (c sub : ℕ) → sub ≤ 7 → (sub ≡ 7 → ⊥) → reach (tiling7 c sub) (tests_of 3) ≡ run (answers_of q) (part7 c sub) (tests_of 3)
unfolding run part7
seven_tabled q c sub l h = agree (λ k. reach (tiling7 c k) (tests_of 3)) (λ k. run (answers_of q) (part7 c k) (tests_of 3)) 7 refl sub (omega (arith, l, h))

-- the faces of a row as the code reads them
abbrev faces_at : ℕ → ℤ × ℤ × ℤ
faces_at c = get_or (table_of (λ k. (entry TEST_7 k 0, entry TEST_7 k 1, entry TEST_7 k 2)) 16) c (pos 0, pos 0, pos 0)

abbrev read7 : ℕ → List ℤ
read7 c = let f = faces_at c in read f.0 ∷ read f.1 ∷ read f.2 ∷ []

reads7 : (c : ℕ) → c < 16 → read7 c ≡ faces7 c
unfolding TEST_7
reads7 = agree read7 faces7 16 refl

pub seven_asked : (q : Cube) (c : ℕ) → c < 16 → (sub : ℕ) → sub ≡ number_of (map (face_of q) (read7 c))
    → run (answers_of q) (part7 c sub) (tests_of 3) ≡ run (answers_of q) (plan7 c) no_notes
unfolding plan7
seven_asked q c h sub e = rw (e, ap (λ ns. number_of (map (face_of q) ns)) (reads7 c h)) (sym (in_turn (answers_of q) (faces7 c) (part7 c) no_notes))
