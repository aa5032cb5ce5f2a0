-- The search for a whole root, digit by digit: it ends at the root, and each digit leaves one digit less. Assumes nothing.
use mathlib.Core.Path.{◌≡◌, sym, ap, ◌∙◌, subst}
use mathlib.Core.Logic.{◌⊎◌, inl, inr}
use Prim.Native.Nat.{ℕ, zero, suc, ◌+◌, ◌-◌, ◌/◌, ◌^◌, ◌≤◌, ◌<◌}
use native.Mathlib.Nat.{lt_irrefl, two-pow-succ}
use native.Mathlib.Numerals.{sub-one}
use native.Mathlib.Omega.{arith}
use Rattle.root.specs.Root.{square, whole_root}
use Rattle.root.specs.Search.{DigitsLeft}
use Rattle.root.proofs.WholeRoot.{root_is}

-- how many are left may be written in another way
pub as_many : {n root bits left unit : ℕ} → bits ≡ left → DigitsLeft n root bits unit → DigitsLeft n root left unit
as_many {n} {root} {bits} {left} {unit} e h = subst (λ (b : ℕ). DigitsLeft n root b unit) e h

pub none_left : (n root bits unit : ℕ) → DigitsLeft n root bits unit → bits ≡ 0 → root ≡ whole_root n
none_left n root bits unit h e =
    let w : unit ≡ 1 = h.weight ∙ ap (λ (b : ℕ). 2 ^ b) e in
    root_is n root (h.from, subst (λ (u : ℕ). n < square (root + u)) w h.up_to)

-- half of the weight is the weight of one digit less
halved : (bits unit : ℕ) → unit ≡ 2 ^ bits → 0 < bits → (unit / 2 ≡ 2 ^ (bits - 1)) × (unit ≡ unit / 2 + unit / 2)
halved zero unit e z = absurd (lt_irrefl 0 z)
halved (suc b) unit e z =
    let f : unit ≡ 2 ^ b + 2 ^ b = e ∙ two-pow-succ b in
    (subst (λ (k : ℕ). unit / 2 ≡ 2 ^ k) (sym (sub-one (suc b))) (omega arith), omega arith)

module _ (n root bits unit : ℕ) (h : DigitsLeft n root bits unit) where
  -- the next digit is 1, or it is 0
  pub one_found : (kept : ℕ) → kept ≡ root + unit / 2 → 0 < bits → square (root + unit / 2) ≤ n → DigitsLeft n kept (bits - 1) (unit / 2)
  one_found kept k z l =
      let e = halved bits unit h.weight z in
      let f : root + unit ≡ kept + unit / 2 = omega (arith, e.1) in
      record { weight = e.0; from = subst (λ (r : ℕ). square r ≤ n) (sym k) l; up_to = subst (λ (r : ℕ). n < square r) f h.up_to; small = omega (arith, h.small) }

  pub nought_found : (kept : ℕ) → kept ≡ root → 0 < bits → n < square (root + unit / 2) → DigitsLeft n kept (bits - 1) (unit / 2)
  nought_found kept k z l =
      subst (λ (r : ℕ). DigitsLeft n r (bits - 1) (unit / 2)) (sym k)
      (record { weight = (halved bits unit h.weight z).0; from = h.from; up_to = l; small = omega (arith, h.small) })

  -- whichever it is
  pub digit_found : (kept : ℕ) → 0 < bits → ((kept ≡ root + unit / 2) × (square (root + unit / 2) ≤ n)) ⊎ ((kept ≡ root) × (n < square (root + unit / 2))) → DigitsLeft n kept (bits - 1) (unit / 2)
  digit_found kept z w = elim w [ inl t ↦ one_found kept t.0 z t.1 | inr t ↦ nought_found kept t.0 z t.1 ]
