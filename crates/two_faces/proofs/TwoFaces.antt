-- The family of two faces: from the two answers to where its plan leads. Assumes nothing.
use mathlib.Core.Path.{◌≡◌, refl, sym, ◌∙◌}
use mathlib.Core.Bool.{Bool, true, false, not, ◌&&◌, true≢false}
use mathlib.Core.List.{List}
use Prim.Native.Nat.{ℕ}
use lib.IntN.{ℤ}
use Rattle.cube.specs.declared.Cube.{Cube}
use Rattle.face.specs.Face.{face_of}
use Rattle.notes.specs.declared.Notes.{Notes}
use Rattle.notes.specs.Notes.{no_notes, tests_of}
use Rattle.interior.specs.declared.Sight.{Sight}
use Rattle.interior.specs.Interior.{inside_of}
use Rattle.tilings.specs.Tilings.{has_centre}
use Rattle.tilings.specs.Plan.{tiling, Reached, reach, settled, run}
use Rattle.tilings.specs.Answers.{answers_of, side_of}
use Rattle.two_faces.specs.declared.Tilings.{Tilings}
use Rattle.two_faces.specs.Plans.{two_faces, plan_by}

alone : (b d : Bool) → b && not d ≡ true → (b ≡ true) × (d ≡ false)
alone true false h = (refl, refl)
alone true true h = absurd (true≢false (sym h))
alone false d h = absurd (true≢false (sym h))

alike : (b d : Bool) → b && not d ≡ false → d && not b ≡ false → d ≡ b
alike true true h i = refl
alike true false h i = absurd (true≢false h)
alike false true h i = absurd (true≢false i)
alike false false h i = refl

module _ (q : Cube) (x y : ℤ) (ns : List ℕ) (to : Tilings) (row other : ℕ) (b d : Bool) (f : b ≡ face_of q x) (g : d ≡ face_of q y) (r : Reached) where
  abbrev led : Reached
  led = run (answers_of q) (plan_by x y ns to row other) no_notes

  -- a tiling at a row of a table with one tiling a row
  abbrev at : ℕ → ℕ → Notes → Reached
  at code row m = reach (tiling code row 0 (has_centre code)) m

  pub by_first : b && not d ≡ true → r ≡ at to.first row (tests_of 2) → r ≡ led
  unfolding run two_faces
  by_first h w = rw (w, sym f ∙ (alone b d h).0, sym g ∙ (alone b d h).1)

  pub by_second : d && not b ≡ true → r ≡ at to.second row (tests_of 2) → r ≡ led
  unfolding run two_faces
  by_second h w = rw (w, sym f ∙ (alone d b h).1, sym g ∙ (alone d b h).0)

  module _ (h : b && not d ≡ false) (i : d && not b ≡ false) (s : ℤ) (u : s ≡ side_of (not b)) (l : Sight) (v : l ≡ inside_of q ns s) where
    pub by_both : b ≡ true → r ≡ settled l (at to.both row) (at to.unless_inside other) (tests_of 2) → r ≡ led
    unfolding run two_faces
    by_both t w = rw (w, v, u, sym f ∙ t, sym g ∙ alike b d h i ∙ t, t)

    pub by_none : b ≡ false → r ≡ settled l (at to.none row) (at to.unless_inside row) (tests_of 2) → r ≡ led
    unfolding run two_faces
    by_none t w = rw (w, v, u, sym f ∙ t, sym g ∙ alike b d h i ∙ t, t)
