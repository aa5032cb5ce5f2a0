-- The value of a run of digits: one more at a time, and by halves. Assumes nothing.
use Rattle.std.proofs.Common.{◌≡◌, ℕ, ◌+◌, ◌*◌, ◌^◌, ◌<◌, ◌≤◌, true, false, cond, List, [], ◌∷◌, ◌++◌, Option, Some, None, MatchOption, option_and_then, length, get_or, take, drop, ◌-◌, ltb, refl, sym, ap, ◌∙◌, arith, lt-ltb, le-ltb, leb-true, lit<, drop_of_length-le, Bool, leb, subst}
use Rattle.std.proofs.Math.Nat.{pow-le-pow_right, mul-add, mul_assoc, mul_comm}
use Rattle.std.proofs.Math.Seq.{take-add}
use Rattle.std.proofs.lemmas.Nat.{mul-add-lt}
use Rattle.std.proofs.lemmas.List.{at_drop_more, drop_more, drop-drop}
use Rattle.std.proofs.lemmas.Grind.{pow_more}
use Rattle.hex_digits.specs.Hex.{digit_of, joined, pair_of, half_of, word_of, number_of}
use Rattle.hex_digits.proofs.Digits.{second, from_to, not_before, number, letter, other}

-- ---- one digit more, of at most eight
pub room : (i n : ℕ) → i < 8 → n < 16 ^ i → 16 * n + 15 < 0x1_0000_0000
room i n h l =
    let p : 16 ^ i ≤ 16 ^ 7 = pow-le-pow_right (lit< tt) {i = i} {j = 7} (omega arith) in
    omega arith

module _ (n i : ℕ) where
  pub still_below : (d : ℕ) → d < 16 → n < 16 ^ i → 16 * n + d < 16 ^ (i + 1)
  still_below d h l = omega (arith, pow_more 16 i)

  module _ (digits : List ℕ) (h : i < length digits) where
    pub one_more : (d : ℕ) → d < 16 → digit_of (get_or digits i 0) ≡ d → number_of n (drop i digits) ≡ number_of (16 * n + d) (drop (i + 1) digits)
    unfolding number_of
    one_more d l e = at_drop_more (number_of n) digits i 0 h ∙ rw (e, lt-ltb d 16 l)

    pub no_more : digit_of (get_or digits i 0) ≡ 16 → number_of n (drop i digits) ≡ None
    unfolding number_of
    no_more e = at_drop_more (number_of n) digits i 0 h ∙ rw e

pub none_left : (n i : ℕ) (digits : List ℕ) → length digits ≤ i → number_of n (drop i digits) ≡ Some n
unfolding number_of
none_left n i digits h = ap (number_of n) (drop_of_length-le digits {i = i} h)

-- ---- by halves: what is added to any number before them
abbrev Read : ℕ → ℕ → ℕ → Option ℕ → Type 0
Read base n v o = MatchOption o (v ≡ base) (λ m. (v < base) × (m ≡ base * n + v))

-- v is the value of digits below the base, and the base where one is none
pub record Reads (base : ℕ) (digits : List ℕ) (v : ℕ) : Type 0 where
  pub read : (n : ℕ) → Read base n v (number_of n digits)

one_read : (b n : ℕ) (t u : Bool) → from_to 48 57 b ≡ t → from_to 97 102 b ≡ u → Read 16 n (digit_of b) (number_of n (b ∷ []))
unfolding number_of
one_read b n true u h k =
    let l = not_before 48 57 b h in
    let m = leb-true b 57 (second (leb 48 b) (leb b 57) h) in
    let e = number b h in
    let s : digit_of b < 16 = omega arith in
    rw (lt-ltb (digit_of b) 16 s) (s, refl)
one_read b n false true h k =
    let l = not_before 97 102 b k in
    let m = leb-true b 102 (second (leb 97 b) (leb b 102) k) in
    let e = letter b h k in
    let s : digit_of b < 16 = omega arith in
    rw (lt-ltb (digit_of b) 16 s) (s, refl)
one_read b n false false h k = rw (← other b h k) refl

pub one_reads : (b : ℕ) → Reads 16 (b ∷ []) (digit_of b)
one_reads b = record { read = λ n. one_read b n (from_to 48 57 b) (from_to 97 102 b) refl refl }

unless : (t : Bool) (k : ℕ → Option ℕ) (x y : Option ℕ) → x ≡ option_and_then k y → cond t x None ≡ option_and_then k (cond t y None)
unless true k x y e = e
unless false k x y e = refl

in_turn : (n : ℕ) (xs ys : List ℕ) → number_of n (xs ++ ys) ≡ option_and_then (λ m. number_of m ys) (number_of n xs)
unfolding number_of
in_turn n [] ys = refl
in_turn n (x ∷ xs) ys = unless (ltb (digit_of x) 16) (λ m. number_of m ys) _ _ (in_turn (16 * n + digit_of x) xs ys)

higher : (base n u v m k : ℕ) → m ≡ base * n + u → k ≡ base * m + v → k ≡ base * base * n + (u * base + v)
higher base n u v m k e f = f ∙ rw e (omega (arith, mul-add base (base * n) u, mul_assoc base base n, mul_comm base u))

module _ (base : ℕ) (xs ys : List ℕ) (u v : ℕ) (second_half : Reads base ys v) (n : ℕ) where
  two_read : (o : Option ℕ) → Read base n u o → Read (base * base) n (joined base u v) (option_and_then (λ m. number_of m ys) o)
  unfolding joined
  two_read None e = rw (e, le-ltb base base (omega arith)) refl
  two_read (Some m) (l, e) = after (number_of m ys) (second_half.read m)
    where
      after : (o : Option ℕ) → Read base m v o → Read (base * base) n (joined base u v) o
      after None f = rw (f, le-ltb base base (omega arith), lt-ltb u base l) refl
      after (Some k) (s, f) = rw (lt-ltb u base l, lt-ltb v base s) (mul-add-lt u base v base l s, higher base n u v m k e f)

pub two_reads : (base : ℕ) {xs ys : List ℕ} {u v : ℕ} → Reads base xs u → Reads base ys v → Reads (base * base) (xs ++ ys) (joined base u v)
two_reads base {xs} {ys} {u} {v} h k = record {
  read = λ n. subst (Read (base * base) n (joined base u v)) (sym (in_turn n xs ys)) (two_read base xs ys u v k n (number_of n xs) (h.read n));
}

-- with nothing before them
said_here : (base v : ℕ) (o : Option ℕ) → Read base 0 v o → MatchOption o (v ≡ base) (λ n. (n < base) × (v ≡ n))
said_here base v None e = e
said_here base v (Some n) (l, e) = let z : base * 0 + v ≡ v = omega arith in (subst (λ k. k < base) (sym (e ∙ z)) l, sym (e ∙ z))

said : {base v : ℕ} {xs : List ℕ} → Reads base xs v → (o : Option ℕ) → o ≡ number_of 0 xs → MatchOption o (v ≡ base) (λ n. (n < base) × (v ≡ n))
said {base} {v} {xs} h o e = said_here base v o (subst (Read base 0 v) (sym e) (h.read 0))

value_alone : (base v : ℕ) (o : Option ℕ) → MatchOption o (v ≡ base) (λ n. (n < base) × (v ≡ n)) → MatchOption o (v ≡ base) (λ n. v ≡ n)
value_alone base v None e = e
value_alone base v (Some n) e = e.1

-- ---- where they stand in a line
module _ (line : List ℕ) where
  one_at : (at : ℕ) → at < length line → Reads 16 (take 1 (drop at line)) (digit_of (get_or line at 0))
  one_at at h =
      let e : take 1 (drop at line) ≡ get_or line at 0 ∷ [] = ap (take 1) (drop_more line at 0 h) in
      subst (λ (xs : List ℕ). Reads 16 xs (digit_of (get_or line at 0))) (sym e) (one_reads (get_or line at 0))

  twice_at : (base n at u v : ℕ) → Reads base (take n (drop at line)) u → Reads base (take n (drop (at + n) line)) v
      → Reads (base * base) (take (n + n) (drop at line)) (joined base u v)
  twice_at base n at u v h k =
      let e : take (n + n) (drop at line) ≡ take n (drop at line) ++ take n (drop (at + n) line) =
      take-add n n (drop at line) ∙ ap (λ (ys : List ℕ). take n (drop at line) ++ take n ys) (drop-drop n at line) in
      subst (λ (xs : List ℕ). Reads (base * base) xs (joined base u v)) (sym e) (two_reads base h k)

  pair_at : (at : ℕ) → at + 2 ≤ length line → Reads 256 (take 2 (drop at line)) (pair_of line at)
  pair_at at h = twice_at 16 1 at _ _ (one_at at (omega arith)) (one_at (at + 1) (omega arith))

  half_at : (at : ℕ) → at + 4 ≤ length line → Reads 65536 (take 4 (drop at line)) (half_of line at)
  half_at at h = twice_at 256 2 at _ _ (pair_at at (omega arith)) (pair_at (at + 2) (omega arith))

  word_at : (at : ℕ) → at + 8 ≤ length line → Reads 0x1_0000_0000 (take 8 (drop at line)) (word_of line at)
  word_at at h = twice_at 65536 4 at _ _ (half_at at (omega arith)) (half_at (at + 4) (omega arith))

  module _ (at : ℕ) where
    pub pair_said : (o : Option ℕ) → at + 2 ≤ length line → o ≡ number_of 0 (take (at + 2 - at) (drop at line))
        → MatchOption o (pair_of line at ≡ 256) (λ n. (n < 256) × (pair_of line at ≡ n))
    pair_said o h e = let n : at + 2 - at ≡ 2 = omega arith in said (pair_at at h) o (e ∙ ap (λ k. number_of 0 (take k (drop at line))) n)

    pub word_said : (o : Option ℕ) → at + 8 ≤ length line → o ≡ number_of 0 (take (at + 8 - at) (drop at line))
        → MatchOption o (word_of line at ≡ 0x1_0000_0000) (λ n. word_of line at ≡ n)
    word_said o h e = let n : at + 8 - at ≡ 8 = omega arith in value_alone _ _ o (said (word_at at h) o (e ∙ ap (λ k. number_of 0 (take k (drop at line))) n))
