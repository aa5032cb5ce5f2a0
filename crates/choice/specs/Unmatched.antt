-- Document 02, 'Change 4': the four pairs are the same for each face, so of a choice's picks none is without a match, or all are. Definitions only.
use Rattle.std.specs.Prelude.{ℕ, ◌≡◌, cond, List, [], ◌∷◌, ℤ, T, length}
use Rattle.binary32.specs.Numbers.{f32}
use Rattle.cube.specs.declared.Cube.{Cube}
use Rattle.cube.specs.Corners.{corner_of}
use Rattle.interior.specs.Pick.{are_ambiguous_faces, any_pair}
use Rattle.interior.specs.Interior.{inside_of}
use Rattle.tilings.specs.Tilings.{is_one_of}
use Rattle.choice.specs.Choice.{nat_of, refusal_of, choice_of}
use Rattle.choice.specs.Figures.{figures_of}

pub record NoneOrAll : Type 0 where
  -- an interior test makes a pick for each of its faces: none is without a match where any of the four pairs matches, else all are
  pub tests : (q : Cube) (faces : List ℕ) (s : ℤ) → T (are_ambiguous_faces faces)
      → (inside_of q faces s).notes.unmatched ≡ cond (any_pair f32 (corner_of q) s) 0 (length faces)
  -- a choice makes one interior test or none, so unmatched is 0 or as many as the case has edge readings
  pub choices : (case configuration : ℤ) (q : Cube) → refusal_of case configuration q ≡ 0
      → T (is_one_of (choice_of case configuration q).notes.unmatched (0 ∷ (figures_of (nat_of case)).edges ∷ []))
