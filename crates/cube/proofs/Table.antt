-- A table's rule is computed at every index below a bound: a test (`under`), or an equation of two lists of values (`agree`). These laws turn it into
-- the rule at each index; what is none of a table's indices is past it (`past_all`). Assumes nothing.
use mathlib.Core.Path.{◌≡◌, subst, sym, ap}
use mathlib.Core.Logic.{inl, inr}
use mathlib.Core.Bool.{Bool, true, ◌&&◌}
use mathlib.Core.List.{List, [], ◌∷◌, head_d, tail}
use Prim.Native.Nat.{ℕ, zero, suc, ◌+◌, ◌<◌, ◌≤◌}
use native.Mathlib.Nat.{eq-or-lt_of_le, le_of_suc-le-suc, not-suc-le-zero}
use native.Mathlib.Omega.{arith}
use lib.Dec.{T}
use lib.Ieee.Fits.{and_l, and_r}

abbrev pub all_under : ℕ → (ℕ → Bool) → Bool
all_under zero p = true
all_under (suc n) p = p n && all_under n p

pub under : (n : ℕ) (p : ℕ → Bool) → T (all_under n p) → (k : ℕ) → k < n → T (p k)
under zero p t k h = absurd (not-suc-le-zero h)
under (suc n) p t k h =
    elim (eq-or-lt_of_le (le_of_suc-le-suc h)) [
      | inl e ↦ subst (λ (i : ℕ). T (p i)) (sym e) (and_l (p n) (all_under n p) t)
      | inr l ↦ under n p (and_r (p n) (all_under n p) t) k l
    ]

module _ {A : Type 0} where
  -- the values of f below n, from the last
  abbrev pub values_of : (ℕ → A) → ℕ → List A
  values_of f zero = []
  values_of f (suc n) = f n ∷ values_of f n

  pub agree : (f g : ℕ → A) (n : ℕ) → values_of f n ≡ values_of g n → (k : ℕ) → k < n → f k ≡ g k
  unfolding head_d
  agree f g zero e k h = absurd (not-suc-le-zero h)
  agree f g (suc n) e k h =
      elim (eq-or-lt_of_le (le_of_suc-le-suc h)) [
        | inl i ↦ subst (λ (j : ℕ). f j ≡ g j) (sym i) (ap (λ (xs : List A). head_d xs (f n)) e)
        | inr l ↦ agree f g n (ap tail e) k l
      ]

-- k is none of the n numbers from a on, as a match tells it
abbrev pub NoneFrom : ℕ → ℕ → ℕ → Type 0
NoneFrom a zero k = Unit {0}
NoneFrom a (suc n) k = NoneFrom a n k × (k ≡ n + a → ⊥)

pub past_all : (a n k : ℕ) → a ≤ k → NoneFrom a n k → n + a ≤ k
past_all a zero k i h = omega arith
past_all a (suc n) k i h = let l = past_all a n k i h.0 in let d = h.1 in omega arith
