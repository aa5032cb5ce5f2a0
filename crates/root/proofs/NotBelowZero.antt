-- What the test `0.0 <= x` tells: a value that fails it has no root. Assumes nothing.
use mathlib.Core.Path.{◌≡◌, refl, sym, ◌∙◌}
use mathlib.Core.Bool.{true, false, true≢false}
use Prim.Native.Nat.{zero, suc}
use native.Mathlib.Nat.{zero-mul, zero-lt-suc}
use lib.Dec.{lt→ltb}
use lib.Ieee.{Float, nan, inf, fin, binary32, up, down, lt, eq, le, of_fields, of_bits, odd}
use Rattle.binary32.proofs.Magnitudes.{sign_test}
use Rattle.root.specs.Root.{root_of}

pub fails_none : (x : Float) → le (of_bits binary32 0) x ≡ false → root_of x ≡ nan
unfolding le lt eq of_bits of_fields odd root_of
fails_none nan h = refl
fails_none (inf true) h = refl
fails_none (inf false) h = absurd (true≢false h)
fails_none (fin true (suc m) e) h = refl
fails_none (fin false (suc m) e) h = absurd (true≢false (sym (sign_test (fin false (suc m) e) (lt→ltb 0 (suc m) (zero-lt-suc m))) ∙ h))
fails_none (fin true zero e) h = absurd (true≢false (rw (zero-mul (down e), zero-mul (up e)) at h))
fails_none (fin false zero e) h = absurd (true≢false (rw (zero-mul (down e), zero-mul (up e)) at h))
