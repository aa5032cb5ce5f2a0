-- Whether a reading's value is 1, and whether it is unsettled, by the tests as the code makes them: a crossed product is a number, so it is below zero, zero or above. Assumes nothing.
use mathlib.Core.Path.{◌≡◌, refl, ap, ◌∙◌, subst}
use mathlib.Core.Bool.{Bool, true, false, not, ◌||◌, true≢false}
use Prim.Native.Nat.{ℕ, zero, suc, ◌+◌, ◌*◌}
use native.Mathlib.Nat.{zero-mul}
use native.Mathlib.Omega.{arith}
use borrow.Author.Tests.{lt-ltb, le-ltb, ne_eqb}
use lib.Dec.{T}
use lib.Ieee.{Float, nan, inf, fin, binary32, up, down, below, level, lt, eq, is_nan, of_bits}
use Rattle.binary32.specs.Numbers.{f32, plus_zero}
use Rattle.edge.specs.declared.Moves.{Moves}
use Rattle.edge.specs.Edge.{Told, rising, beyond, crossed, blank, a_of, b_of, valued, quotients}
use Rattle.edge.specs.Moves.{product_of, read_of}
use Rattle.edge.proofs.Readings.{by_tests, t, rises, outside, read_by_lem}
use Rattle.notes.specs.declared.Notes.{Notes}
use Rattle.notes.specs.Notes.{look_of}
use Rattle.interior.specs.Interior.{seen, is_unsettled, seen_as}

-- ---- neither below nor above zero
-- the comparisons of ±a with a zero
level_zero : (s : Bool) (a : ℕ) → not (below s a false 0 || below false 0 s a) ≡ level s a false 0
level_zero false zero = refl
level_zero false (suc a) = rw (le-ltb (suc a) 0 (omega arith), lt-ltb 0 (suc a) (omega arith), ne_eqb (suc a) 0 (λ o. omega (arith, o)))
level_zero true zero = refl
level_zero true (suc a) = rw (lt-ltb 0 (suc a + 0) (omega arith), ne_eqb (suc a) 0 (λ o. omega (arith, o)))

zero_or_not : (p : Float) → T (not (is_nan p)) → not (lt p plus_zero || lt plus_zero p) ≡ eq p plus_zero
unfolding lt eq is_nan
zero_or_not nan r = absurd r
zero_or_not (inf true) r = refl
zero_or_not (inf false) r = refl
zero_or_not (fin s m e) r = rw (zero-mul (down e)) (level_zero s (m * up e * 1))

-- ---- what a reading says, by the tests as the code makes them: a above zero, t outside 0 and 1, the product a NaN, below zero, above zero
nan_below : (p : Float) → true ≡ is_nan p → (lt p plus_zero ≡ false) × (lt plus_zero p ≡ false)
unfolding lt is_nan
nan_below nan e = (refl, refl)
nan_below (inf s) e = absurd (true≢false e)
nan_below (fin s m k) e = absurd (true≢false e)

module _ (t p : Float) where
  abbrev told : Bool → Bool → Bool → Told Float
  told r o n = by_tests rising (beyond t) blank (crossed t p) r o n

  hit_by : (r o n : Bool) → n ≡ is_nan p → (r || o) || lt p plus_zero ≡ valued f32 quotients (told r o n)
  hit_by true o n e = refl
  hit_by false true n e = refl
  hit_by false false true e = (nan_below p e).0
  hit_by false false false e = refl

  unsettled_by : (r o n : Bool) → n ≡ is_nan p → not (((r || o) || lt p plus_zero) || lt plus_zero p) ≡ is_unsettled f32 quotients (told r o n)
  unsettled_by true o n e = refl
  unsettled_by false true n e = refl
  unsettled_by false false true e = rw ((nan_below p e).0, (nan_below p e).1) refl
  unsettled_by false false false e = zero_or_not p (subst (λ (b : Bool). T (not b)) e tt)

module _ (m : Moves) (a b p : Float) (ea : a ≡ a_of f32 m.g1 m.g2 m.g3 m.g4) (eb : b ≡ b_of f32 m.u1 m.u2 m.u3 m.u4 m.g1 m.g2 m.g3 m.g4) (ep : p ≡ product_of m (t m a b p ea eb)) where
  abbrev past : Bool
  past = rises m a b p ea eb || outside m a b p ea eb

  pub looked : (matched : Bool) (ns : Notes) → ns ≡ look_of (not ((past || lt p (of_bits binary32 0)) || lt (of_bits binary32 0) p)) matched
      → seen (past || lt p (of_bits binary32 0)) ns ≡ seen_as f32 quotients matched (read_of m)
  unfolding seen_as of_bits
  looked matched ns en =
      let its = read_by_lem m a b p ea eb (is_nan p) ep refl in
      let hit = hit_by (t m a b p ea eb) p (rises m a b p ea eb) (outside m a b p ea eb) (is_nan p) refl in
      let unsettled = unsettled_by (t m a b p ea eb) p (rises m a b p ea eb) (outside m a b p ea eb) (is_nan p) refl in
      (λ i. seen (hit i) ((en ∙ ap (λ (u : Bool). look_of u matched) unsettled) i)) ∙ ap (λ (r : Told Float). seen_as f32 quotients matched r) its
