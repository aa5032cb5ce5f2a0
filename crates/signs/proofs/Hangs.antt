-- A choice hangs on no other face than those tested. Assumes nothing.
use mathlib.Core.Path.{◌≡◌, refl, ap, ◌∙◌}
use mathlib.Core.Bool.{Bool, true, false, cond, ◌&&◌}
use mathlib.Core.List.{List, map, foldr}
use Prim.Native.Nat.{ℕ}
use lib.Dec.{T}
use lib.IntN.{ℤ}
use lib.Ieee.Fits.{and_l, and_r}
use Rattle.std.specs.Bool.{beq}
use Rattle.notes.specs.declared.Notes.{Notes}
use Rattle.notes.specs.Notes.{added}
use Rattle.interior.specs.declared.Sight.{Sight}
use Rattle.tilings.specs.Plan.{Plan, nothing, untiled, tile, ask, face, inside, inside13, Answers, settled, tested, run}
use Rattle.signs.specs.Asked.{asked, HangsOnAsked}

same_answer : (a b : Bool) → T (beq a b) → a ≡ b
same_answer true true t = refl
same_answer true false t = absurd t
same_answer false true t = absurd t
same_answer false false t = refl

module _ (v w : Answers) (inside_so : (ns : List ℕ) (s : ℤ) → v.insides ns s ≡ w.insides ns s) (inside13_so : v.insides13 ≡ w.insides13) where
  abbrev agree : List ℤ → Bool
  agree ns = foldr ◌&&◌ true (map (λ n. beq (v.faces n) (w.faces n)) ns)

  abbrev Same : Plan → Type 0
  Same p = (m : Notes) → T (agree (asked v p)) → run v p m ≡ run w p m

  -- what follows an answer
  followed : (b : Bool) (p r : Plan) (m n : Notes) → Same p → Same r → T (agree (cond b (asked v p) (asked v r)))
      → cond b (run v p m) (run v r n) ≡ cond b (run w p m) (run w r n)
  followed true p r m n f g t = f m t
  followed false p r m n f g t = g n t

  pub same : (p : Plan) → Same p
  unfolding asked run settled
  same nothing m t = refl
  same (untiled c sub) m t = refl
  same (tile code row column) m t = refl
  same (ask (face n) p r) m t =
      let rest = agree (cond (v.faces n) (asked v p) (asked v r)) in
      followed (v.faces n) p r (tested m) (tested m) (same p) (same r) (and_r (beq (v.faces n) (w.faces n)) rest t)
      ∙ ap (λ (b : Bool). cond b (run w p (tested m)) (run w r (tested m))) (same_answer (v.faces n) (w.faces n) (and_l (beq (v.faces n) (w.faces n)) rest t))
  same (ask (inside ns s) p r) m t =
      let k = added m (v.insides ns s).notes in
      followed (v.insides ns s).hit p r k k (same p) (same r) t
      ∙ ap (λ (x : Sight). settled x (run w p) (run w r) m) (inside_so ns s)
  same (ask inside13 p r) m t =
      followed v.insides13 p r (tested m) (tested m) (same p) (same r) t
      ∙ ap (λ (b : Bool). cond b (run w p (tested m)) (run w r (tested m))) inside13_so

pub hangs : HangsOnAsked
hangs v w p m t f e = same v w f e p m t
