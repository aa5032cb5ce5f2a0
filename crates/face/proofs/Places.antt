-- By a face's place, what the public routine says. Assumes nothing.
use mathlib.Core.Path.{◌≡◌, refl, sym, ap, ◌∙◌}
use mathlib.Core.Bool.{Bool, true, false, cond}
use Prim.Native.Nat.{ℕ}
use lib.IntN.{ℤ, nat_abs}
use Rattle.std.specs.Prelude.{Option, Some, None, is_some}
use Rattle.cube.specs.declared.Cube.{Cube}
use Rattle.cube.specs.Corners.{all_finite}
use Rattle.face.specs.Face.{face_of, is_face, answer, refused, test_face_of}
use Rattle.face.specs.Columns.{place_of}

some_by : (b : Bool) (k : ℕ) → is_some (cond b (Some k) None) ≡ b
some_by true k = refl
some_by false k = refl

-- a number is a face's exactly where it has a place
module _ (z : ℤ) (p : Option ℕ) (e : p ≡ place_of z) where
  pub is_a_face : (b : Bool) → is_some p ≡ b → is_face z ≡ b
  is_a_face b s = sym (some_by (is_face z) (nat_abs z)) ∙ ap is_some (sym e) ∙ s

module _ (q : Cube) (z : ℤ) (p : Option ℕ) (e : p ≡ place_of z) where
  pub by_no_face : is_some p ≡ false → refused 4 ≡ test_face_of q z
  unfolding test_face_of
  by_no_face s = rw (is_a_face z p e false s)

  pub by_not_finite : is_some p ≡ true → all_finite q ≡ false → refused 3 ≡ test_face_of q z
  unfolding test_face_of
  by_not_finite s g = rw (is_a_face z p e true s, g)

  pub by_answer : is_some p ≡ true → all_finite q ≡ true → (r : Bool) → r ≡ face_of q z → answer r ≡ test_face_of q z
  unfolding test_face_of
  by_answer s g r t = rw (is_a_face z p e true s, g, t)
