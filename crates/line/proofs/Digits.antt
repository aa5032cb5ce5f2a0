-- Digits as a number by the tests that the code makes, and what fits. Assumes nothing.
use mathlib.Core.Path.{◌≡◌, refl}
use mathlib.Core.Bool.{Bool, true, false, cond, ◌&&◌}
use Prim.Native.Nat.{ℕ, ◌+◌, ◌-◌, ◌*◌, ◌<◌}
use native.Mathlib.Nat.{not-suc-le-zero}
use native.Mathlib.Omega.{arith}
use lib.Dec.{ltb}
use mathlib.Core.List.{List, [], ◌∷◌}
use lib.ListN.{length, get_or}
use mathlib.Core.Path.{sym, ◌∙◌}
use borrow.Author.Tests.{ltb-true, lt-ltb, eq-eqb, ne_eqb}
use Rattle.hex_digits.proofs.Digits.{first, second, from_to, not_before}
use Rattle.line.specs.Number.{decimal_digit, one_digit, two_digits, three_digits, whole_of}

-- a value below the one that stands for none
pub passed : (t : Bool) (x y : ℕ) → cond t x y < y → t ≡ true
passed true x y h = refl
passed false x y h = absurd (omega arith)

module _ (b : ℕ) where
  pub a_digit : from_to 48 57 b ≡ true → b - 48 ≡ decimal_digit b
  unfolding decimal_digit
  a_digit h = rw h

  pub not_zero : (b ≡ 48 → ⊥) → 0 < decimal_digit b
  unfolding decimal_digit
  not_zero f = by_test (from_to 48 57 b) refl
    where
      by_test : (t : Bool) → from_to 48 57 b ≡ t → 0 < cond t (b - 48) 10
      by_test true h = let l = not_before 48 57 b h in omega (arith, f)
      by_test false h = omega arith

pub zero_digit : decimal_digit 48 ≡ 0
unfolding decimal_digit
zero_digit = refl

module _ (a : ℕ) where
  pub one_taken : a < 10 → a ≡ one_digit a
  unfolding one_digit
  one_taken h = rw (lt-ltb a 10 h)

pub one_refused : one_digit 10 ≡ 1000
unfolding one_digit
one_refused = refl

module _ (a b : ℕ) where
  abbrev pub are_two : Bool
  are_two = ltb 0 a && ltb a 10 && ltb b 10

  pub two_taken : are_two ≡ true → 10 * a + b ≡ two_digits a b
  unfolding two_digits
  two_taken h = rw h

  pub two_value : 0 < a → a < 10 → b < 10 → two_digits a b ≡ 10 * a + b
  two_value h k l = sym (two_taken (rw (lt-ltb 0 a h, lt-ltb a 10 k, lt-ltb b 10 l)))

  pub two_bounds : are_two ≡ true → (0 < a) × (a < 10) × (b < 10)
  two_bounds h =
      let g = first (ltb 0 a && ltb a 10) (ltb b 10) h in (
        ltb-true 0 a (first (ltb 0 a) (ltb a 10) g),
        ltb-true a 10 (second (ltb 0 a) (ltb a 10) g),
        ltb-true b 10 (second (ltb 0 a && ltb a 10) (ltb b 10) h),
      )

  pub two_refused : (0 < a → a < 10 → b < 10 → ⊥) → two_digits a b ≡ 1000
  unfolding two_digits
  two_refused f = by_test are_two refl
    where
      by_test : (t : Bool) → are_two ≡ t → cond t (10 * a + b) 1000 ≡ 1000
      by_test true h = let l = two_bounds h in absurd (f l.0 l.1 l.2)
      by_test false h = refl

module _ (a b c : ℕ) where
  abbrev pub are_three : Bool
  are_three = are_two a b && ltb c 10

  pub three_taken : are_three ≡ true → 100 * a + 10 * b + c ≡ three_digits a b c
  unfolding three_digits
  three_taken h = rw h

  pub three_value : 0 < a → a < 10 → b < 10 → c < 10 → three_digits a b c ≡ 100 * a + 10 * b + c
  three_value h k l m = sym (three_taken (rw (lt-ltb 0 a h, lt-ltb a 10 k, lt-ltb b 10 l, lt-ltb c 10 m)))

  pub three_bounds : are_three ≡ true → (0 < a) × (a < 10) × (b < 10) × (c < 10)
  three_bounds h =
      let p = two_bounds a b (first (are_two a b) (ltb c 10) h) in
      (p.0, p.1, p.2, ltb-true c 10 (second (are_two a b) (ltb c 10) h))

  pub three_refused : (0 < a → a < 10 → b < 10 → c < 10 → ⊥) → three_digits a b c ≡ 1000
  unfolding three_digits
  three_refused f = by_test are_three refl
    where
      by_test : (t : Bool) → are_three ≡ t → cond t (100 * a + 10 * b + c) 1000 ≡ 1000
      by_test true h = let l = three_bounds h in absurd (f l.0 l.1 l.2 l.3)
      by_test false h = refl

-- ---- a text's value, by its length
module _ (text : List ℕ) where
  pub of_one : length text ≡ 1 → whole_of text ≡ one_digit (decimal_digit (get_or text 0 0))
  unfolding whole_of
  of_one h = rw (eq-eqb (length text) 1 h)

  pub of_two : length text ≡ 2 → whole_of text ≡ two_digits (decimal_digit (get_or text 0 0)) (decimal_digit (get_or text 1 0))
  unfolding whole_of
  of_two h = rw (ne_eqb (length text) 1 (λ e. omega arith), eq-eqb (length text) 2 h)

  pub of_three : length text ≡ 3
      → whole_of text ≡ three_digits (decimal_digit (get_or text 0 0)) (decimal_digit (get_or text 1 0)) (decimal_digit (get_or text 2 0))
  unfolding whole_of
  of_three h = rw (ne_eqb (length text) 1 (λ e. omega arith), ne_eqb (length text) 2 (λ e. omega arith), eq-eqb (length text) 3 h)

  pub of_none : length text ≡ 0 → whole_of text ≡ 1000
  unfolding whole_of
  of_none h = rw (ne_eqb (length text) 1 (λ e. omega arith), ne_eqb (length text) 2 (λ e. omega arith), ne_eqb (length text) 3 (λ e. omega arith))

  pub of_more : 3 < length text → whole_of text ≡ 1000
  unfolding whole_of
  of_more h = rw (ne_eqb (length text) 1 (λ e. omega arith), ne_eqb (length text) 2 (λ e. omega arith), ne_eqb (length text) 3 (λ e. omega arith))

-- a text of several digits whose first is a zero
pub after_zero : (text : List ℕ) → 1 < length text → get_or text 0 0 ≡ 48 → whole_of text ≡ 1000
after_zero [] h e = absurd (omega arith)
after_zero (a ∷ []) h e = absurd (omega arith)
after_zero (a ∷ b ∷ []) h e = of_two _ refl ∙ two_refused _ _ (λ z. absurd (not-suc-le-zero (rw (e, zero_digit) at z)))
after_zero (a ∷ b ∷ c ∷ []) h e = of_three _ refl ∙ three_refused _ _ _ (λ z. absurd (not-suc-le-zero (rw (e, zero_digit) at z)))
after_zero (a ∷ b ∷ c ∷ d ∷ text) h e = of_more _ (omega arith)

pub ruleset wholes = (not_zero, one_taken, one_refused, two_value, two_refused, three_value, three_refused, of_one, of_two, of_three, of_none, of_more, after_zero)
