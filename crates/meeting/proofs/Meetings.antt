-- The ways out of the code of the comparison: of `meets`, and of `compare_faces`, to which term 3 is brought. Assumes nothing.
use mathlib.Core.Path.{◌≡◌, sym, ◌∙◌}
use mathlib.Core.Logic.{◌↔◌, inl, inr}
use mathlib.Core.Bool.{Bool, false, ◌&&◌, ◌||◌, beq, and-true, and_assoc, or-false}
use Prim.Native.Nat.{ℕ}
use borrow.Author.Tests.{ne_eqb}
use lib.Dec.{T, eqb}
use lib.IntN.{ℤ}
use lib.Ieee.{eq}
use Rattle.std.specs.Prelude.{Option, Some, Result, Ok}
use Rattle.binary32.proofs.Bools.{either, beq_true}
use Rattle.cube.specs.declared.Cube.{Cube}
use Rattle.cube.specs.declared.Refusal.{Refusal}
use Rattle.cube.specs.Corners.{corners, value_at, corner_of}
use Rattle.face.specs.Face.{face_corners, face_of, is_positive}
use Rattle.meeting.specs.Meeting.{same_values, meet_at, meet, joined, AgreeBySign}
use Rattle.meeting.proofs.Agreement.{faces_agree, other_order}

module _ (k : Cube) (n : ℕ) (l : Cube) (p : ℕ) where
  pub by_one : n ≡ 1 → eqb p 3 && eq k.c0 l.c3 && eq k.c4 l.c7 && eq k.c5 l.c6 && eq k.c1 l.c2 ≡ meet k n l p
  unfolding meet meet_at same_values face_corners corners value_at corner_of
  by_one e = rw e (simp (and_assoc, and-true, or-false))

  pub by_two : n ≡ 2 → eqb p 4 && eq k.c1 l.c0 && eq k.c5 l.c4 && eq k.c6 l.c7 && eq k.c2 l.c3 ≡ meet k n l p
  unfolding meet meet_at same_values face_corners corners value_at corner_of
  by_two e = rw e (simp (and_assoc, and-true, or-false))

  pub by_five : n ≡ 5 → eqb p 6 && eq k.c0 l.c4 && eq k.c3 l.c7 && eq k.c2 l.c6 && eq k.c1 l.c5 ≡ meet k n l p
  unfolding meet meet_at same_values face_corners corners value_at corner_of
  by_five e = rw e (simp (and_assoc, and-true))

  pub by_none : (n ≡ 1 → ⊥) → (n ≡ 2 → ⊥) → (n ≡ 5 → ⊥) → false ≡ meet k n l p
  unfolding meet meet_at
  by_none a b c = rw (ne_eqb n 1 a, ne_eqb n 2 b, ne_eqb n 5 c)

-- ---- term 3, whichever cube has the first face
agree : (k : Cube) (n : ℤ) (l : Cube) (p : ℤ) → T (joined k n l p || joined l p k n) → (face_of k n ≡ face_of l p) ↔ (is_positive n ≡ is_positive p)
agree k n l p t =
    elim (either (joined k n l p) (joined l p k n) t) [
      | inl u ↦ faces_agree k n l p u
      | inr u ↦ other_order k n l p u
    ]

-- of a result that compares the answers r and s
abbrev compared : Bool → Result (Option Bool) Refusal
compared b = Ok (Some b)

pub by_comparison : (k : Cube) (n : ℤ) (l : Cube) (p : ℤ) (r s : Bool) → T (joined k n l p || joined l p k n) → r ≡ face_of k n → s ≡ face_of l p → AgreeBySign n p (Ok (Some (beq r s)))
by_comparison k n l p r s t er es b e =
    let c : b ≡ beq (face_of k n) (face_of l p) = same_of b (beq r s) e ∙ (λ i. beq (er i) (es i)) in
    (λ h. (agree k n l p t).0 ((beq_true (face_of k n) (face_of l p)).0 (sym c ∙ h)), λ h. c ∙ (beq_true (face_of k n) (face_of l p)).1 ((agree k n l p t).1 h))
  where
    same_of : (b c : Bool) → compared c ≡ compared b → b ≡ c
    same_of b c e = cc
