-- Numbers kept as bits: the cases that ask something are the plans'. Assumes nothing.
use mathlib.Core.Path.{◌≡◌, refl, sym}
use mathlib.Core.Bool.{false}
use Prim.Native.Nat.{ℕ, ◌/◌, ◌%◌, ◌^◌, ◌<◌, ◌≤◌}
use native.Mathlib.Omega.{arith}
use lib.Dec.{eqb}
use Rattle.cube.proofs.Table.{agree}
use Rattle.tilings.specs.Tilings.{is_one_of}
use Rattle.families.specs.Plans.{asking}
use Rattle.families.proofs.Families.{not_asking}

pub below_16 : (case : ℕ) → case < 16 → eqb (0x34d8 / 2 ^ case % 2) 1 ≡ is_one_of case asking
below_16 case h = agree (λ k. eqb (0x34d8 / 2 ^ k % 2) 1) (λ k. is_one_of k asking) 16 refl case h

pub from_16 : (case : ℕ) → 16 ≤ case → false ≡ is_one_of case asking
from_16 case l = sym (not_asking case (past 3 (omega arith)) (past 4 (omega arith)) (past 6 (omega arith)) (past 7 (omega arith)) (past 10 (omega arith)) (past 12 (omega arith)) (past 13 (omega arith)))
  where
    past : (k : ℕ) → k < 16 → (case ≡ k → ⊥)
    past k h e = omega (arith, e, h, l)
