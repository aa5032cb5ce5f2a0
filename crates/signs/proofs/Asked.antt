-- The faces tested for a set are those that alternate in it, each once, with the set's sign: plans are data, so one test is computed over the paths of all 256 plans, and an induction brings it to
-- any answers. Assumes nothing.
use mathlib.Core.Path.{◌≡◌, subst}
use mathlib.Core.Bool.{Bool, true, false, cond, ◌&&◌}
use mathlib.Core.List.{List, [], ◌∷◌, map, foldr}
use Prim.Native.Nat.{ℕ, ◌<◌}
use lib.Dec.{T, eqb, eqb→eq}
use lib.IntN.{ℤ}
use lib.Ieee.Fits.{and_l, and_r}
use Rattle.cube.proofs.Table.{all_under, under}
use Rattle.face.specs.Face.{face_corners, face_corner}
use Rattle.tilings.specs.Plan.{Plan, nothing, untiled, tile, ask, face, inside, inside13, ask_in_turn, Answers}
use Rattle.two_faces.specs.Tables.{TEST_10, TEST_12}
use Rattle.two_faces.specs.Plans.{two_faces, plan10, plan12}
use Rattle.family_13.specs.Tables.{TEST_13, SUB_CONFIG_13}
use Rattle.family_13.specs.Plans.{parts13, last_from, tile13, part13, plan13}
use Rattle.families.specs.Tables.{TEST_3, TEST_4, TEST_6, TEST_7}
use Rattle.families.specs.Plans.{plan3, plan4, plan6, part7, plan7, plans, plan_of}
use Rattle.signs.specs.declared.Family.{Family}
use Rattle.signs.specs.Rule.{family_of}
use Rattle.signs.specs.Table.{families, family_at}
use Rattle.signs.specs.Asked.{asked, plan_by, alternates_in, times, signed_by, AskedRightly}
use Rattle.signs.proofs.Ruled.{by_rule}

-- whatever is answered, `holds` is true of the faces tested on the way
unfoldable every_path : (List ℤ → Bool) → Plan → Bool
every_path holds nothing = holds []
every_path holds (untiled c sub) = holds []
every_path holds (tile code row column) = holds []
every_path holds (ask (face n) p r) = every_path (λ ns. holds (n ∷ ns)) p && every_path (λ ns. holds (n ∷ ns)) r
every_path holds (ask (inside ns s) p r) = every_path holds p && every_path holds r
every_path holds (ask inside13 p r) = every_path holds p && every_path holds r

module _ (w : Answers) where
  abbrev OnPath : Plan → Type 0
  OnPath p = (holds : List ℤ → Bool) → T (every_path holds p) → T (holds (asked w p))

  either : (holds : List ℤ → Bool) (b : Bool) (p r : Plan) → OnPath p → OnPath r → T (every_path holds p && every_path holds r) → T (holds (cond b (asked w p) (asked w r)))
  either holds true p r f g t = f holds (and_l (every_path holds p) (every_path holds r) t)
  either holds false p r f g t = g holds (and_r (every_path holds p) (every_path holds r) t)

  on_path : (p : Plan) → OnPath p
  unfolding every_path asked
  on_path nothing holds t = t
  on_path (untiled c sub) holds t = t
  on_path (tile code row column) holds t = t
  on_path (ask (face n) p r) holds t = either (λ ns. holds (n ∷ ns)) (w.faces n) p r (on_path p) (on_path r) t
  on_path (ask (inside ns s) p r) holds t = either holds (w.insides ns s).hit p r (on_path p) (on_path r) t
  on_path (ask inside13 p r) holds t = either holds w.insides13 p r (on_path p) (on_path r) t

abbrev once_at : ℕ → List ℤ → ℕ → Bool
once_at set ns n = eqb (times n ns) (cond (alternates_in set n) 1 0)

abbrev signed : ℕ → List ℤ → Bool
signed set ns = foldr ◌&&◌ true (map (signed_by set) ns)

abbrev rightly : ℕ → List ℤ → Bool
rightly set ns = all_under 7 (once_at set ns) && signed set ns

abbrev set_rightly : ℕ → Bool
set_rightly set = every_path (rightly set) (plan_by (family_at set))

all_rightly : T (all_under 256 set_rightly)
unfolding every_path alternates_in face_corner face_corners families family_at plan_of plans plan3 plan4 plan6 part7 plan7 two_faces plan10 plan12 parts13 last_from tile13 part13 plan13 ask_in_turn TEST_3 TEST_4 TEST_6 TEST_7 TEST_10 TEST_12 TEST_13 SUB_CONFIG_13
all_rightly = tt

module _ (set : ℕ) (h : set < 256) (w : Answers) where
  abbrev ns : List ℤ
  ns = asked w (plan_by (family_of set))

  right : T (rightly set ns)
  right =
      subst (λ (f : Family). T (rightly set (asked w (plan_by f)))) (by_rule set h)
      (on_path w (plan_by (family_at set)) (rightly set) (under 256 set_rightly all_rightly set h))

  once : (n : ℕ) → n < 7 → times n ns ≡ cond (alternates_in set n) 1 0
  once n k = eqb→eq (times n ns) (cond (alternates_in set n) 1 0) (under 7 (once_at set ns) (and_l (all_under 7 (once_at set ns)) (signed set ns) right) n k)

  all_signed : T (signed set ns)
  all_signed = and_r (all_under 7 (once_at set ns)) (signed set ns) right

pub asked_rightly : AskedRightly
asked_rightly set h w = record { once = once set h w; signed = all_signed set h w }
