-- A number's decimal digits: the last and those before it, and how many there are. Assumes nothing.
use mathlib.Core.Path.{◌≡◌, refl, ap, ◌∙◌, subst}
use mathlib.Core.Bool.{Bool, true, false, cond}
use mathlib.Core.List.{List, [], ◌∷◌, ◌++◌}
use Prim.Native.Nat.{ℕ, zero, suc, ◌+◌, ◌/◌, ◌%◌, ◌^◌, ◌≤◌, ◌<◌}
use native.Mathlib.Nat.{not-suc-le-zero, lt-suc_self, lt_of_lt_of_le, le_of_suc-le-suc, div-lt_self, div-lt_iff_lt-mul, pow-suc}
use native.Mathlib.Decide.{dec_lt}
use native.Mathlib.Omega.{arith}
use lib.Dec.{ltb, lit≤, lit<}
use lib.ListN.{length, length-append}
use borrow.Author.Tests.{ltb-false, lt-ltb, le-ltb}
use Rattle.std.specs.Fmt as Fmt
use Rattle.std.proofs.lemmas.Fmt as Steps
use Rattle.put.specs.Decimal.{decimal, decimal_in}

-- the higher digits matter only where there are any
higher : (n : ℕ) (one x y last : List ℕ) → (10 ≤ n → x ≡ y) → (b : Bool) → ltb n 10 ≡ b → cond b one (x ++ last) ≡ cond b one (y ++ last)
higher n one x y last f true e = refl
higher n one x y last f false e = ap (λ (l : List ℕ). l ++ last) (f (ltb-false n 10 e))

shorter : (n : ℕ) → 10 ≤ n → n / 10 < n
shorter n h = div-lt_self (omega arith) (lit< tt)

-- any room above the number is enough
enough : (j k n : ℕ) → n < j → n < k → decimal_in j n ≡ decimal_in k n
unfolding decimal_in
enough zero k n h l = absurd (not-suc-le-zero h)
enough (suc j) zero n h l = absurd (not-suc-le-zero l)
enough (suc j) (suc k) n h l =
    higher n ((48 + n) ∷ []) (decimal_in j (n / 10)) (decimal_in k (n / 10)) ((48 + n % 10) ∷ [])
    (λ t. enough j k (n / 10) (lt_of_lt_of_le (shorter n t) (le_of_suc-le-suc h)) (lt_of_lt_of_le (shorter n t) (le_of_suc-le-suc l)))
    (ltb n 10)
    refl

pub decimal_step : (n : ℕ) → decimal n ≡ cond (ltb n 10) ((48 + n) ∷ []) (decimal (n / 10) ++ ((48 + n % 10) ∷ []))
unfolding decimal decimal_in
decimal_step n =
    higher n ((48 + n) ∷ []) (decimal_in n (n / 10)) (decimal (n / 10)) ((48 + n % 10) ∷ [])
    (λ t. enough n (suc (n / 10)) (n / 10) (shorter n t) (lt-suc_self (n / 10)))
    (ltb n 10)
    refl

pub decimal_one : (n : ℕ) → n < 10 → decimal n ≡ (48 + n) ∷ []
decimal_one n h = decimal_step n ∙ ap (λ (b : Bool). cond b ((48 + n) ∷ []) (decimal (n / 10) ++ ((48 + n % 10) ∷ []))) (lt-ltb n 10 h)

pub decimal_more : (n : ℕ) → 10 ≤ n → decimal n ≡ decimal (n / 10) ++ ((48 + n % 10) ∷ [])
decimal_more n h = decimal_step n ∙ ap (λ (b : Bool). cond b ((48 + n) ∷ []) (decimal (n / 10) ++ ((48 + n % 10) ∷ []))) (le-ltb n 10 h)

-- they are what the library prints
pub decimal_is : (n : ℕ) → n < 2 ^ 64 → decimal n ≡ Fmt.decimal n
decimal_is =
    Steps.decimal_by_steps (λ n ds. decimal n ≡ ds) decimal_one
    (λ n ds h e. decimal_more n h ∙ ap (λ (l : List ℕ). l ++ ((48 + n % 10) ∷ [])) e)

pub length_one : (n : ℕ) → n < 10 → length (decimal n) ≡ 1
length_one n h = ap length (decimal_one n h)

pub length_more : (n : ℕ) → 10 ≤ n → length (decimal n) ≡ length (decimal (n / 10)) + 1
length_more n h = ap length (decimal_more n h) ∙ length-append (decimal (n / 10)) ((48 + n % 10) ∷ [])

pub decimal_length : (k n : ℕ) → 0 < k → n < 10 ^ k → length (decimal n) ≤ k
decimal_length zero n p h = absurd (not-suc-le-zero p)
decimal_length (suc zero) n p h = let l = length_one n h in omega arith
decimal_length (suc (suc k)) n p h =
    elim (dec_lt n 10) [
      | yes l ↦ let one = length_one n l in omega arith
      | no l ↦
          let more = length_more n (omega arith) in
          let high = decimal_length (suc k) (n / 10) (omega arith) ((div-lt_iff_lt-mul (lit< tt)).1 (subst (λ (m : ℕ). n < m) (pow-suc 10 (suc k)) h)) in
          omega arith
    ]

-- a byte's digits
pub decimal_small : (n : ℕ) → n < 256 → length (decimal n) ≤ 3
decimal_small n h = decimal_length 3 n (lit< tt) (lt_of_lt_of_le h (lit≤ tt))

-- a u64's digits
pub decimal_long : (n : ℕ) → n < 2 ^ 64 → length (decimal n) ≤ 20
decimal_long n h = decimal_length 20 n (lit< tt) (lt_of_lt_of_le h (lit≤ tt))
