-- The root of a value that binary32 holds is one too. Assumes nothing.
use mathlib.Core.Bool.{true, false}
use Prim.Native.Nat.{zero, suc, ◌-◌, ◌*◌, ◌+◌, ◌/◌, ◌^◌, ℕ, compare}
use native.Mathlib.Nat.{le_trans}
use lib.Dec.{T}
use lib.Ieee.{Float, nan, inf, fin, binary32, low, size, fits}
use lib.Ieee.Fits.{kept-lt, nearest-le, nan-fits}
use Rattle.binary32.proofs.Values.{units_fit}
use Rattle.root.specs.Root.{square, whole_root, root_units, root_of, units_of}

pub root_units_fit : (n : ℕ) → T (fits binary32 (root_units n))
unfolding root_units
root_units_fit n =
    let k = size (whole_root n) - 24 in
    let q = whole_root n / 2 ^ k in
    units_fit false _ k (le_trans (nearest-le q (compare (4 * n) (square ((2 * q + 1) * 2 ^ k)))) (kept-lt 24 (whole_root n)))

pub root_fits : (x : Float) → T (fits binary32 x) → T (fits binary32 (root_of x))
unfolding root_of
root_fits nan h = h
root_fits (inf true) h = nan-fits binary32
root_fits (inf false) h = h
root_fits (fin true zero e) h = h
root_fits (fin false zero e) h = h
root_fits (fin false (suc m) e) h = root_units_fit (units_of (suc m) e * 2 ^ low binary32)
root_fits (fin true (suc m) e) h = nan-fits binary32
