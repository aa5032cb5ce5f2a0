-- Document 01, 'A choice' and 'What is refused': the refusal and the choice for any case, configuration and cube, side by side. Definitions only.
use Rattle.std.specs.Prelude.{ℕ, Bool, false, cond, ◌&&◌, ℤ, pos, negsuc, leb, ltb, eqb, get_or, Option, Some, None, Result, Ok, Err}
use Rattle.cube.specs.declared.Cube.{Cube}
use Rattle.cube.specs.declared.Refusal.{Refusal}
use Rattle.cube.specs.Corners.{all_finite}
use Rattle.cube.specs.Refusals.{refusal_number}
use Rattle.notes.specs.Notes.{no_notes}
use Rattle.tilings.specs.declared.Counted.{Counted}
use Rattle.tilings.specs.Tilings.{configurations}
use Rattle.tilings.specs.Plan.{Reached, run}
use Rattle.tilings.specs.Answers.{answers_of, reached}
use Rattle.families.specs.Plans.{plan_of}

-- 0 to 14
abbrev pub is_case : ℤ → Bool
is_case (pos k) = leb k 14
is_case (negsuc k) = false

-- one of the case's: case 0 has -1 alone, the others run from 0
abbrev pub is_configuration : ℕ → ℤ → Bool
is_configuration case (pos c) = ltb c (get_or configurations case 0)
is_configuration case (negsuc c) = eqb case 0 && eqb c 0

-- the number of a case or a configuration, 0 below 0
abbrev pub nat_of : ℤ → ℕ
nat_of (pos k) = k
nat_of (negsuc k) = 0

-- refusals 1, 2 and 3 in this order; 0 where there is none
unfoldable pub refusal_of : ℤ → ℤ → Cube → ℕ
refusal_of case configuration q = cond (is_case case) (cond (is_configuration (nat_of case) configuration) (cond (all_finite q) 0 3) 2) 1

-- the choice, where none of them is given
unfoldable pub choice_of : ℤ → ℤ → Cube → Reached
choice_of case configuration q = run (answers_of q) (plan_of (nat_of case) (nat_of configuration)) no_notes

-- what is answered: the choice, or the number of a refusal
pub data Said : Type 0 where
  made : Reached → Said
  refused : ℕ → Said

-- the readings of an answer, none where it is refused
abbrev pub readings_in : Said → ℕ
readings_in (made r) = r.notes.readings
readings_in (refused n) = 0

unfoldable pub answer_of : ℤ → ℤ → Cube → Said
answer_of case configuration q =
    let n = refusal_of case configuration q in
    cond (eqb n 0) (made (choice_of case configuration q)) (refused n)

-- the answers of the code by document 01's numbers
abbrev pub said : Result Counted Refusal → Said
said (Ok r) = made (reached r)
said (Err why) = refused (refusal_number why)

-- and a refusal of the code by its number, 0 where there is none
abbrev pub number_or_0 : Option Refusal → ℕ
number_or_0 None = 0
number_or_0 (Some why) = refusal_number why
