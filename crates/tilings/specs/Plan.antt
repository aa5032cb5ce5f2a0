-- A choice as a plan: what is asked, and where each answer leads. A plan knows no cube and no kind of number; `run` follows it over a cube's
-- answers. Definitions only.
use Rattle.std.specs.Prelude.{ℕ, ◌+◌, ◌*◌, Bool, cond, List, [], ◌∷◌, ℤ}
use Rattle.notes.specs.declared.Notes.{Notes}
use Rattle.notes.specs.Notes.{added, tests_of}
use Rattle.interior.specs.declared.Sight.{Sight}
use Rattle.tilings.specs.Tilings.{has_centre}

pub data Question : Type 0 where
  -- the face test of a signed face number
  face : ℤ → Question
  -- the interior test: the ambiguous faces, and s
  inside : List ℕ → ℤ → Question
  -- the case-13 test
  inside13 : Question

pub data Plan : Type 0 where
  nothing : Plan
  -- configuration and sub-configuration
  untiled : ℕ → ℕ → Plan
  -- code, row and column
  tile : ℕ → ℕ → ℕ → Plan
  -- what follows a yes, and a no
  ask : Question → Plan → Plan → Plan

-- the faces asked in turn; what follows is by the number that the answers make, 1 for the first, 2 for the second, 4 for the third ..
unfoldable pub ask_in_turn : List ℤ → (ℕ → Plan) → Plan
ask_in_turn [] next = next 0
ask_in_turn (n ∷ ns) next = ask (face n) (ask_in_turn ns (λ k. next (1 + 2 * k))) (ask_in_turn ns (λ k. next (2 * k)))

-- a cube's answers
pub record Answers : Type 0 where
  pub faces : ℤ → Bool
  pub insides : List ℕ → ℤ → Sight
  pub insides13 : Bool

-- document 01, 'A choice'
pub data Chosen : Type 0 where
  empty : Chosen
  -- configuration and sub-configuration
  no_tiling : ℕ → ℕ → Chosen
  -- code, row, column and centre
  tiling : ℕ → ℕ → ℕ → Bool → Chosen

-- a choice, and what was counted on the way to it
pub record Reached : Type 0 where
  pub choice : Chosen
  pub notes : Notes

abbrev pub reach : Chosen → Notes → Reached
reach x m = record { choice = x; notes = m }

-- where an interior test leads, with what it counted added
unfoldable pub settled : Sight → (Notes → Reached) → (Notes → Reached) → Notes → Reached
settled x f g m = cond x.hit (f (added m x.notes)) (g (added m x.notes))

-- document 02, Change 7: with one test more, of a face or of case 13
abbrev pub tested : Notes → Notes
tested m = added m (tests_of 1)

-- each question is counted as it is asked, whatever the answer
unfoldable pub run : Answers → Plan → Notes → Reached
run w nothing m = reach empty m
run w (untiled c sub) m = reach (no_tiling c sub) m
run w (tile code row column) m = reach (tiling code row column (has_centre code)) m
run w (ask (face n) p r) m = cond (w.faces n) (run w p (tested m)) (run w r (tested m))
run w (ask (inside ns s) p r) m = settled (w.insides ns s) (run w p) (run w r) m
run w (ask inside13 p r) m = cond w.insides13 (run w p (tested m)) (run w r (tested m))
