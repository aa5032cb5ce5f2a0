-- `both_within` from the places, and the two ways out of `answer_at`, as the code comes to them. Assumes nothing.
use mathlib.Core.Path.{◌≡◌}
use mathlib.Core.Bool.{Bool, true, false, not, ◌&&◌}
use lib.Ieee.{Float, binary32, add, sub, div}
use Rattle.edge.specs.declared.Moves.{Moves}
use Rattle.edge.proofs.Readings.{place_at}
use Rattle.thirteen.specs.Thirteen.{within, both_within, answer_at}

module _ (m : Moves) (t w1 w2 w3 w4 : Float)
    (e1 : w1 ≡ place_at m.u1 m.g1 t) (e2 : w2 ≡ place_at m.u2 m.g2 t) (e3 : w3 ≡ place_at m.u3 m.g3 t) (e4 : w4 ≡ place_at m.u4 m.g4 t) where
  abbrev n : Float
  n = sub binary32 (sub binary32 (add binary32 w1 w3) w2) w4

  pub by_places : (x y : Bool) → x ≡ within (div binary32 (sub binary32 w1 w4) n) → y ≡ within (div binary32 (sub binary32 w1 w2) n) → x && y ≡ both_within m t
  unfolding both_within
  by_places x y ex ey = rw (ex, ey, e1, e2, e3, e4)

module _ (m : Moves) (t1 t2 : Float) (in1 in2 : Bool) (e1 : in1 ≡ within t1) (e2 : in2 ≡ within t2) where
  pub by_inside : in1 && in2 ≡ true → (all1 all2 : Bool) → all1 ≡ both_within m t1 → all2 ≡ both_within m t2 → not (all1 && all2) ≡ answer_at m t1 t2
  unfolding answer_at
  by_inside h all1 all2 f1 f2 = rw (← e1, ← e2, h, f1, f2)

  pub by_outside : in1 && in2 ≡ false → true ≡ answer_at m t1 t2
  unfolding answer_at
  by_outside h = rw (← e1, ← e2, h)
