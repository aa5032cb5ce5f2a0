-- The definition's root at the values that document 01 names. Assumes nothing.
use mathlib.Core.Path.{◌≡◌, refl, sym, ap, ◌∙◌}
use mathlib.Core.Logic.{inl, inr}
use mathlib.Core.Bool.{true, false}
use Prim.Native.Nat.{ℕ, zero, suc, ◌*◌}
use native.Mathlib.Nat.{zero-mul}
use native.Mathlib.Omega.{arith}
use borrow.Author.Tests.{le-ltb}
use lib.Dec.{T}
use lib.IntN.{pos}
use lib.Ieee.{Float, nan, inf, fin, binary32, up, down, lt, of_bits}
use Rattle.root.specs.Root.{root_of, root_bits}
use Rattle.root.specs.Special.{SpecialRoots, SpecialBits}
use Rattle.root.proofs.Patterns.{own_root, nan_written}

pub below_zero_root : (x : Float) → T (lt x (fin false 0 (pos 0))) → root_of x ≡ nan
unfolding lt root_of
below_zero_root nan t = refl
below_zero_root (inf true) t = refl
below_zero_root (inf false) t = absurd t
below_zero_root (fin true (suc m) e) t = refl
below_zero_root (fin true zero e) t = absurd (rw (zero-mul (up e), zero-mul (down e)) at t)
below_zero_root (fin false m e) t = absurd (rw (zero-mul (down e), le-ltb (m * up e * 1) 0 (omega arith)) at t)

pub special_roots : (x r : Float) → r ≡ root_of x → SpecialRoots x r
unfolding root_of
special_roots x r e = record {
  not_a_number = λ h. e ∙ ap root_of h;
  below_zero = λ t. e ∙ below_zero_root x t;
  either_zero = λ s h. e ∙ ap root_of h ∙ sym h;
  infinite = λ h. e ∙ ap root_of h ∙ sym h;
}

pub special_bits : (b r : ℕ) → r ≡ root_bits b → SpecialBits b r
special_bits b r e =
    let s = special_roots (of_bits binary32 b) (root_of (of_bits binary32 b)) refl in
    record {
      not_a_number = λ h. e ∙ sym (nan_written b (s.not_a_number h));
      below_zero = λ t. e ∙ sym (nan_written b (s.below_zero t));
      plus_zero = λ h. e ∙ sym (own_root b (inl h)) ∙ h;
      minus_zero = λ h. e ∙ sym (own_root b (inr (inl h))) ∙ h;
      infinite = λ h. e ∙ sym (own_root b (inr (inr h))) ∙ h;
    }

-- the bits and what is known of them, as the contract of the bits form has it
pub told : (b r : ℕ) → r ≡ root_bits b → (r ≡ root_bits b) × SpecialBits b r
told b r e = (e, special_bits b r e)
