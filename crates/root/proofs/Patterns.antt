-- The root of each pattern: of a positive one by its fields, of the zeros and infinities, and NaN for the others. Assumes nothing.
use mathlib.Core.Path.{◌≡◌, refl, sym, ap, ◌∙◌, subst}
use mathlib.Core.Bool.{Bool, true, false, cond, true≢false, false≢true}
use mathlib.Core.Logic.{◌⊎◌, inl, inr, ⊎_elim}
use Prim.Native.Nat.{ℕ, zero, suc, ◌+◌, ◌*◌, ◌/◌, ◌%◌, ◌^◌, ◌≤◌, ◌<◌}
use native.Mathlib.Nat.{lt_irrefl, add_comm, mul-pos, eq-or-lt_of_le}
use native.Mathlib.Omega.{arith}
use borrow.Author.Tests.{leb-true, leb-false}
use lib.Dec.{leb, eqb}
use lib.IntN.{ℤ}
use lib.Pow.{pow_pos}
use lib.Ieee.{Float, nan, inf, fin, binary32, low, up, down, of_fields, of_bits, to_bits, size, odd}
use lib.Ieee.Exact.{HasValue}
use Rattle.binary32.proofs.NanBits.{above_inf}
use Rattle.binary32.proofs.Values.{nought_value, value_cut, of_bits_sign, of_bits_fields, subnormal_value, normal_value}
use Rattle.root.specs.Root.{root_units, root_of, root_bits}
use Rattle.root.specs.Nearest.{Units}
use Rattle.root.proofs.Scaling.{subnormal_scale, normal_scale}

-- ---- positive values

not_nought : (e : ℤ) (a : ℕ) → 0 < a → 0 * up e * 2 ^ low binary32 ≡ a * down e → ⊥
not_nought e a h v = lt_irrefl 0 (subst (λ (z : ℕ). 0 < z) (nought_value e a v) h)

pub root_of_units : (x : Float) (a : ℕ) → 0 < a → Units x a → root_of x ≡ root_units (a * 2 ^ low binary32)
unfolding root_of
root_of_units nan a h v = absurd v
root_of_units (inf s) a h v = absurd v
root_of_units (fin true m e) a h v = absurd (true≢false v.0)
root_of_units (fin false zero e) a h v = absurd (not_nought e a h v.1)
root_of_units (fin false (suc m) e) a h v = ap (λ (z : ℕ). root_units (z * 2 ^ 149)) (value_cut (suc m) e a v.1)

bits_of_units : (b a n : ℕ) → 0 < a → Units (of_bits binary32 b) a → a * 2 ^ 149 ≡ n → to_bits binary32 (root_units n) ≡ root_bits b
unfolding root_bits
bits_of_units b a n h v e = sym (ap (to_bits binary32) (root_of_units (of_bits binary32 b) a h v ∙ ap root_units e))

pub subnormal_bits : (x t : ℕ) → x ≡ 0 → t < 2 ^ 23 → 0 < x * 2 ^ 23 + t → to_bits binary32 (root_units (2 * t * 4 ^ 74)) ≡ root_bits (x * 2 ^ 23 + t)
subnormal_bits x t z l h =
    let e : of_bits binary32 (x * 2 ^ 23 + t) ≡ of_fields binary32 false 0 t = of_bits_fields x t (omega arith) l ∙ ap (λ (y : ℕ). of_fields binary32 false y t) z in
    bits_of_units (x * 2 ^ 23 + t) (t * 2 ^ 0) (2 * t * 4 ^ 74) (omega arith) (subst (λ (f : Float). Units f (t * 2 ^ 0)) (sym e) (subnormal_value false t)) (subnormal_scale t)

-- the exponent is that of w, and of j fours
pub normal_bits : (x t w j : ℕ) → (x ≡ 0 → ⊥) → x < 255 → t < 2 ^ 23 → x + 148 ≡ w + (j + j)
    → to_bits binary32 (root_units ((t + 2 ^ 23) * 2 ^ w * 4 ^ j)) ≡ root_bits (x * 2 ^ 23 + t)
normal_bits zero t w j z h l e = absurd (z refl)
normal_bits (suc x) t w j z h l e =
    let f : x + 149 ≡ w + (j + j) = omega arith in
    let g : of_bits binary32 (suc x * 2 ^ 23 + t) ≡ of_fields binary32 false (suc x) t = of_bits_fields (suc x) t (omega arith) l in
    let p : 0 < 2 ^ 23 + t = omega arith in
    bits_of_units (suc x * 2 ^ 23 + t) ((2 ^ 23 + t) * 2 ^ x) ((t + 2 ^ 23) * 2 ^ w * 4 ^ j) (mul-pos p (pow_pos x))
    (subst (λ (y : Float). Units y ((2 ^ 23 + t) * 2 ^ x)) (sym g) (normal_value false x t h))
    (ap (λ (m : ℕ). m * 2 ^ x * 2 ^ 149) (add_comm (2 ^ 23) t) ∙ normal_scale (t + 2 ^ 23) x w j f)

-- ---- each its own root

pub own_root : (b : ℕ) → (b ≡ 0) ⊎ ((b ≡ 0x8000_0000) ⊎ (b ≡ 0x7f80_0000)) → b ≡ root_bits b
unfolding root_bits root_of of_bits of_fields to_bits odd size
own_root b (inl e) = e ∙ ap root_bits (sym e)
own_root b (inr (inl e)) = e ∙ ap root_bits (sym e)
own_root b (inr (inr e)) = e ∙ ap root_bits (sym e)

-- ---- below zero

root_below_zero : (x : Float) (a : ℕ) → 0 < a → HasValue x true a (2 ^ low binary32) → root_of x ≡ nan
unfolding root_of
root_below_zero nan a h v = refl
root_below_zero (inf s) a h v = absurd v
root_below_zero (fin false m e) a h v = absurd (false≢true v.0)
root_below_zero (fin true zero e) a h v = absurd (not_nought e a h v.1)
root_below_zero (fin true (suc m) e) a h v = refl

top_field : (t : ℕ) → root_of (of_fields binary32 true 255 t) ≡ nan
unfolding root_of of_fields
top_field t = go (eqb t 0)
  where
    go : (b : Bool) → root_of (cond b (inf true) nan) ≡ nan
    go true = refl
    go false = refl

negative_fields : (x t : ℕ) → x ≤ 255 → 0 < x + t → root_of (of_fields binary32 true x t) ≡ nan
negative_fields zero t h p = root_below_zero (of_fields binary32 true 0 t) (t * 2 ^ 0) (omega arith) (subnormal_value true t)
negative_fields (suc x) t h p =
    ⊎_elim (λ e. ap (λ (z : ℕ). root_of (of_fields binary32 true z t)) e ∙ top_field t)
    (λ l. root_below_zero (of_fields binary32 true (suc x) t) ((2 ^ 23 + t) * 2 ^ x) (mul-pos (omega arith) (pow_pos x)) (normal_value true x t l))
    (eq-or-lt_of_le h)

pub nan_written : (b : ℕ) → root_of (of_bits binary32 b) ≡ nan → 0x7fc0_0000 ≡ root_bits b
unfolding root_bits to_bits
nan_written b e = ap (to_bits binary32) (sym e)

-- past +infinity, and not -0: a NaN, or below zero
pub nan_root : (b : ℕ) → b < 2 ^ 32 → 0x7f80_0000 < b → (b ≡ 0x8000_0000 → ⊥) → 0x7fc0_0000 ≡ root_bits b
nan_root b h l z = nan_written b (go (leb (2 ^ 31) b) refl)
  where
    go : (s : Bool) → leb (2 ^ 31) b ≡ s → root_of (of_bits binary32 b) ≡ nan
    go true e = ap root_of (of_bits_sign true b e) ∙ negative_fields (b % 2 ^ 31 / 2 ^ 23) (b % 2 ^ 23) (omega arith) (omega (arith, leb-true (2 ^ 31) b e, z))
    go false e = ap root_of (sym (above_inf b (omega (arith, leb-false (2 ^ 31) b e)))) ∙ (unfold root_of in refl)
