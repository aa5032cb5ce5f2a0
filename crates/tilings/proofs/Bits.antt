-- Numbers kept as bits: the codes that are drawn with the centre are document 01's list. Assumes nothing.
use mathlib.Core.Path.{◌≡◌, refl}
use mathlib.Core.Bool.{false}
use Prim.Native.Nat.{ℕ, ◌/◌, ◌%◌, ◌^◌, ◌<◌, ◌≤◌}
use native.Mathlib.Omega.{arith}
use borrow.Author.Tests.{ne_eqb}
use lib.Dec.{eqb}
use Rattle.cube.proofs.Table.{agree}
use Rattle.tilings.specs.Tilings.{has_centre}

-- past the bits
pub far : (m : ℕ) {n : ℕ} → m ≤ n → (k : ℕ) → k < m → eqb n k ≡ false
far m l k h = ne_eqb _ k (λ e. omega (arith, e, h, l))

pub below_64 : (code : ℕ) → code < 64 → eqb (0xe18602000 / 2 ^ code % 2) 1 ≡ has_centre code
unfolding has_centre
below_64 code h = agree (λ k. eqb (0xe18602000 / 2 ^ k % 2) 1) has_centre 64 refl code h

pub from_64 : (code : ℕ) → 64 ≤ code → false ≡ has_centre code
unfolding has_centre
from_64 code l =
    let f = far 64 l in
    rw (f 13 (omega arith), f 21 (omega arith), f 22 (omega arith), f 27 (omega arith), f 28 (omega arith), f 33 (omega arith), f 34 (omega arith), f 35 (omega arith))
