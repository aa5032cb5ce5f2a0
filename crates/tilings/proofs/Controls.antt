-- That the definitions say something, by computation: each code from 1 to 38, with the centre where handle_cube draws it so, or without; what is no tiling's
-- code has none; and what is counted at each question of a plan. Assumes nothing.
use mathlib.Core.Path.{◌≡◌, refl}
use mathlib.Core.Bool.{Bool, true, false, not, ◌&&◌}
use mathlib.Core.List.{List, [], ◌∷◌, map, foldr}
use Prim.Native.Nat.{ℕ}
use lib.Dec.{T}
use lib.IntN.{pos}
use Rattle.notes.specs.Notes.{no_notes}
use Rattle.interior.specs.Interior.{seen}
use Rattle.tilings.specs.Tilings.{has_centre}
use Rattle.tilings.specs.Plan.{Question, face, inside, inside13, Plan, nothing, untiled, ask, Answers, settled, run}

with_centre : T (foldr ◌&&◌ true (map has_centre (13 ∷ 21 ∷ 22 ∷ 27 ∷ 28 ∷ 33 ∷ 34 ∷ 35 ∷ [])))
unfolding has_centre
with_centre = tt

without : T (foldr ◌&&◌ true (map (λ n. not (has_centre n)) (
    1 ∷ 2 ∷ 3 ∷ 4 ∷ 5 ∷ 6 ∷ 7 ∷ 8 ∷ 9 ∷ 10 ∷ 11 ∷ 12 ∷ 14 ∷ 15 ∷ 16 ∷ 17 ∷ 18 ∷ 19 ∷ 20 ∷ 23 ∷ 24 ∷ 25 ∷ 26 ∷ 29 ∷ 30 ∷ 31 ∷ 32 ∷ 36 ∷ 37 ∷ 38 ∷ []
    )))
unfolding has_centre
without = tt

no_code : T (foldr ◌&&◌ true (map (λ n. not (has_centre n)) (0 ∷ 39 ∷ 255 ∷ [])))
unfolding has_centre
no_code = tt

-- ---- document 02, Change 7: one for a face test and for a case-13 test, and for an interior test what it has counted, whatever the answer
abbrev answering : Bool → Answers
answering b = record {
  faces = λ n. b;
  insides = λ ns s. seen b (record { unsettled = 1; unmatched = 2; readings = 3 });
  insides13 = b;
}

-- the plan that asks these one after the other, whatever the answers
abbrev asked : List Question → Plan
asked qs = foldr (λ w p. ask w p p) (untiled 0 5) qs

abbrev readings : Bool → Plan → ℕ
readings b p = (run (answering b) p no_notes).notes.readings

trials : List Plan
trials = nothing ∷ map asked ([] ∷ (face (pos 1) ∷ []) ∷ (inside13 ∷ []) ∷ (inside (1 ∷ []) (pos 7) ∷ []) ∷ (face (pos 1) ∷ face (pos 2) ∷ inside (1 ∷ []) (pos 7) ∷ inside13 ∷ []) ∷ [])

steps : map (λ b. map (readings b) trials) (true ∷ false ∷ []) ≡ map (λ b. 0 ∷ 0 ∷ 1 ∷ 1 ∷ 3 ∷ 6 ∷ []) (true ∷ false ∷ [])
unfolding trials run settled
steps = refl
