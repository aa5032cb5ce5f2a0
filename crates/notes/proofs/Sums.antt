-- Counts added: nothing, and tests after a test. Assumes nothing.
use mathlib.Core.Path.{◌≡◌}
use Prim.Native.Nat.{ℕ, suc, ◌+◌}
use native.Mathlib.Nat.{add-zero}
use native.Mathlib.Omega.{arith}
use Rattle.notes.specs.declared.Notes.{Notes}
use Rattle.notes.specs.Notes.{no_notes, tests_of, added}

pub added_none : (m : Notes) → added m no_notes ≡ m
added_none m = λ i. record { unsettled = add-zero m.unsettled i; unmatched = add-zero m.unmatched i; readings = add-zero m.readings i }

pub test_and_tests : (m : Notes) (n : ℕ) → added (added m (tests_of 1)) (tests_of n) ≡ added m (tests_of (suc n))
test_and_tests m n =
    let more : m.readings + 1 + n ≡ m.readings + suc n = omega arith in
    λ i. record { unsettled = add-zero (m.unsettled + 0) i; unmatched = add-zero (m.unmatched + 0) i; readings = more i }
