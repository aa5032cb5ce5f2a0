-- Document 02, 'Change 1': the faces that are tested in a row alternate in that row, and each that alternates is tested once. Definitions only.
use Rattle.std.specs.Prelude.{ℕ, ◌<◌, ◌≡◌, Bool, true, cond, not, ◌&&◌, List, [], ◌∷◌, map, ℤ, pos, nat_abs, T, eqb, leb, count_by}
use mathlib.Core.List.{foldr}
use Rattle.std.specs.Bool.{beq}
use Rattle.face.specs.Face.{face_corner, is_positive, is_face}
use Rattle.notes.specs.declared.Notes.{Notes}
use Rattle.tilings.specs.Plan.{Plan, nothing, untiled, tile, ask, face, inside, inside13, Answers, run}
use Rattle.families.specs.Plans.{plan_of}
use Rattle.choice.specs.Choice.{nat_of}
use Rattle.signs.specs.declared.Family.{Family}
use Rattle.signs.specs.Sets.{bit, size_of}
use Rattle.signs.specs.Rule.{family_of}

-- the faces tested where a plan is followed, in their order
unfoldable pub asked : Answers → Plan → List ℤ
asked w nothing = []
asked w (untiled c sub) = []
asked w (tile code row column) = []
asked w (ask (face n) p r) = n ∷ cond (w.faces n) (asked w p) (asked w r)
asked w (ask (inside ns s) p r) = cond (w.insides ns s).hit (asked w p) (asked w r)
asked w (ask inside13 p r) = cond w.insides13 (asked w p) (asked w r)

-- the plan of a family, and of a set's row
abbrev pub plan_by : Family → Plan
plan_by f = plan_of (nat_of f.case) (nat_of f.configuration)

abbrev pub plan_for : ℕ → Plan
plan_for set = plan_by (family_of set)

-- along face n the corners belong and do not, by turns
unfoldable pub alternates_in : ℕ → ℕ → Bool
alternates_in set n =
    let at : ℕ → ℕ = λ k. bit set (face_corner (pos n) k) in
    eqb (at 0) (at 2) && eqb (at 1) (at 3) && not (eqb (at 0) (at 1))

-- how often face n is tested, with either sign
abbrev pub times : ℕ → List ℤ → ℕ
times n ns = count_by (λ m. eqb (nat_abs m) n) ns

-- it is a face, and above 0 exactly where the set has at most four corners
abbrev pub signed_by : ℕ → ℤ → Bool
signed_by set n = is_face n && beq (is_positive n) (leb (size_of set) 4)

-- ns are the faces that are tested for a set
pub record Rightly (set : ℕ) (ns : List ℤ) : Type 0 where
  -- each face that alternates once, and no other
  pub once : (n : ℕ) → n < 7 → times n ns ≡ cond (alternates_in set n) 1 0
  pub signed : T (foldr ◌&&◌ true (map (signed_by set) ns))

-- whatever the answers
abbrev pub AskedRightly : Type 0
AskedRightly = (set : ℕ) → set < 256 → (w : Answers) → Rightly set (asked w (plan_for set))

-- a choice hangs on no other face than those tested: where other answers agree on them, and on every test inside, it is the same, with what was counted
abbrev pub HangsOnAsked : Type 0
HangsOnAsked =
    (v w : Answers) (p : Plan) (m : Notes)
    → T (foldr ◌&&◌ true (map (λ n. beq (v.faces n) (w.faces n)) (asked v p)))
    → ((ns : List ℕ) (s : ℤ) → v.insides ns s ≡ w.insides ns s)
    → v.insides13 ≡ w.insides13
    → run v p m ≡ run w p m
