-- The f32 square root: document 01, paragraph 'Root'. A positive finite x is a whole number of binary32's smallest value, x = a * 2 ^ -149, so its root
-- in the same units is the root of the whole number a * 2 ^ 149. That root is rounded as lib.Ieee's `round` rounds: 24 digits are kept, and the nearest
-- value is found by comparing squares. That the value found is the nearest is `NearestRoot` beside this file, which `root` promises too. Definitions only.
use Prim.Native.Nat.{ℕ, zero, suc, ◌+◌, ◌-◌, ◌*◌, ◌/◌, ◌^◌, compare}
use Rattle.std.specs.Prelude.{true, false, cond, leb, ℤ, Float}
use Rattle.std.specs.Float.{nan, inf, fin, binary32}
use Rattle.std.specs.Float.Ieee.{prec, low, up, down, size, nearest, units, of_bits, to_bits}

abbrev pub square : ℕ → ℕ
square n = n * n

-- the largest q whose square is at most n, for an n below 4 ^ d: all its digits but the last are those of the root of n / 4
unfoldable pub root_within : ℕ → ℕ → ℕ
root_within zero n = 0
root_within (suc d) n = let q = 2 * root_within d (n / 4) in cond (leb (square (q + 1)) n) (q + 1) q

-- the largest q whose square is at most n: n is below 2 ^ size n, and so below 4 ^ size n
unfoldable pub whole_root : ℕ → ℕ
whole_root n = root_within (size n) n

-- q or the next number up, in steps of 2 ^ k: the root of n lies below, at or above the middle of the two as 4 * n does against the square of twice the middle
abbrev pub nearest_step : ℕ → ℕ → ℕ → ℕ
nearest_step n q k = nearest q (compare (4 * n) (square ((2 * q + 1) * 2 ^ k)))

-- the binary32 value nearest to the root of n, in units of the smallest value: of the whole root the 24 leading digits q are kept and k dropped
unfoldable pub root_units : ℕ → Float
root_units n =
    let k = size (whole_root n) - prec binary32 in
    let q = whole_root n / 2 ^ k in
    units binary32 false (nearest_step n q k) k

-- how many of the smallest value m * 2 ^ e is
abbrev pub units_of : ℕ → ℤ → ℕ
units_of m e = m * up e * 2 ^ low binary32 / down e

unfoldable pub root_of : Float → Float
-- NaN for NaN
root_of nan = nan
-- +infinity for itself
root_of (inf false) = inf false
-- NaN below zero
root_of (inf true) = nan
-- each zero for itself
root_of (fin s zero e) = fin s zero e
-- the nearest value
root_of (fin false (suc m) e) = root_units (units_of (suc m) e * 2 ^ low binary32)
-- NaN below zero
root_of (fin true (suc m) e) = nan

-- the same of bit patterns: a NaN is always written 7fc00000
unfoldable pub root_bits : ℕ → ℕ
root_bits b = to_bits binary32 (root_of (of_bits binary32 b))
