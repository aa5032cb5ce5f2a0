-- What is counted, held to what could be: as many readings, and no more of them unsettled or without a match. Assumes nothing.
use mathlib.Core.Path.{◌≡◌, refl}
use mathlib.Core.Bool.{Bool, true, false}
use Prim.Native.Nat.{ℕ, suc, ◌≤◌}
use native.Mathlib.Omega.{arith}
use lib.Dec.{lit≤}
use Rattle.notes.specs.declared.Notes.{Notes}
use Rattle.notes.specs.Notes.{look_of, added}

abbrev pub AtMost : Notes → Notes → Type 0
AtMost m k = (m.unsettled ≤ k.unsettled) × ((m.unmatched ≤ k.unmatched) × (m.readings ≡ k.readings))

-- the most that n edge readings count
abbrev pub looks_of : ℕ → Notes
looks_of n = record { unsettled = n; unmatched = n; readings = n }

pub at_most_one : (unsettled matched : Bool) → AtMost (look_of unsettled matched) (looks_of 1)
at_most_one true true = (lit≤ tt, (lit≤ tt, refl))
at_most_one true false = (lit≤ tt, (lit≤ tt, refl))
at_most_one false true = (lit≤ tt, (lit≤ tt, refl))
at_most_one false false = (lit≤ tt, (lit≤ tt, refl))

pub one_more : (m l : Notes) (n : ℕ) → AtMost m (looks_of 1) → AtMost l (looks_of n) → AtMost (added m l) (looks_of (suc n))
one_more m l n (a, (b, e)) (c, (d, f)) = (omega arith, (omega arith, omega (arith, e, f)))

pub at_most_added : (m l k n : Notes) → AtMost m k → AtMost l n → AtMost (added m l) (added k n)
at_most_added m l k n (a, (b, e)) (c, (d, f)) = (omega arith, (omega arith, omega (arith, e, f)))
