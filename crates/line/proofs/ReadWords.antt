-- Nine bytes that are read as a number below 2^32 are a space and that number's hex digits. Assumes nothing.
use mathlib.Core.Path.{◌≡◌, refl, sym, ap, ap₂, ◌∙◌}
use mathlib.Core.Bool.{Bool, true, false, ◌&&◌}
use mathlib.Core.List.{List, [], ◌∷◌, ◌++◌}
use Prim.Native.Nat.{ℕ, zero, suc, ◌+◌, ◌-◌, ◌*◌, ◌/◌, ◌%◌, ◌≤◌, ◌<◌}
use native.Mathlib.Omega.{arith}
use native.Mathlib.Numerals.{towards_suc}
use lib.Dec.{eqb, ltb, leb}
use lib.ListN.{length, get_or, take, drop}
use lib.Seq.{drop-cons}
use borrow.Author.Tests.{ltb-true, leb-true, lt-ltb, le-ltb, eqb-true}
use Rattle.hex_digits.specs.Hex.{digit_of, joined, word_of}
use Rattle.hex_digits.proofs.Digits.{first, second, from_to, not_before, number, letter}
use Rattle.line.specs.Line.{corner_bits}
use Rattle.line.specs.Written.{hex_digit, hex_text, corner}
use Rattle.line.proofs.Corners.{after_space}
use Rattle.line.proofs.Digits.{passed}

-- ---- a digit's byte
letter_byte : (b : ℕ) → from_to 48 57 b ≡ false → from_to 97 102 b ≡ true → b ≡ hex_digit (digit_of b)
letter_byte b f t =
    let l = not_before 97 102 b t in
    let e = letter b f t in
    rw (le-ltb (digit_of b) 10 (omega arith)) (omega arith)

number_byte : (b : ℕ) → from_to 48 57 b ≡ true → b ≡ hex_digit (digit_of b)
number_byte b t =
    let l = not_before 48 57 b t in
    let m = leb-true b 57 (second (leb 48 b) (leb b 57) t) in
    let e = number b t in
    rw (lt-ltb (digit_of b) 10 (omega arith)) (omega arith)

digit_byte : (b : ℕ) → digit_of b < 16 → b ≡ hex_digit (digit_of b)
unfolding digit_of
digit_byte b h = by_test (from_to 48 57 b) refl
  where
    by_test : (t : Bool) → from_to 48 57 b ≡ t → b ≡ hex_digit (digit_of b)
    by_test true e = number_byte b e
    by_test false e = letter_byte b e (passed (from_to 97 102 b) (b - 97 + 10) 16 (rw e at h))

-- ---- two numbers as one below base * base
module _ (base high low : ℕ) where
  both : joined base high low < base * base → (high < base) × (low < base) × (high * base + low ≡ joined base high low)
  unfolding joined
  both h =
      let t = passed (ltb high base && ltb low base) (high * base + low) (base * base) h in
      (ltb-true high base (first (ltb high base) (ltb low base) t), ltb-true low base (second (ltb high base) (ltb low base) t), rw t)

-- ---- two digits, four, and eight
abbrev pair : ℕ → ℕ → ℕ
pair x y = joined 16 (digit_of x) (digit_of y)

abbrev half : ℕ → ℕ → ℕ → ℕ → ℕ
half x y z w = joined 256 (pair x y) (pair z w)

pair_text : (x y n : ℕ) → pair x y ≡ n % 256 → x ∷ y ∷ [] ≡ hex_text 2 n
unfolding hex_text
pair_text x y n e =
    let p = both 16 (digit_of x) (digit_of y) (omega arith) in
    let d : digit_of x ≡ n / 16 % 16 = omega arith in
    let f : digit_of y ≡ n % 16 = omega arith in
    λ i. (digit_byte x p.0 ∙ ap hex_digit d) i ∷ (digit_byte y p.1 ∙ ap hex_digit f) i ∷ []

half_text : (x y z w n : ℕ) → half x y z w ≡ n % 65536 → x ∷ y ∷ z ∷ w ∷ [] ≡ hex_text 4 n
unfolding hex_text
half_text x y z w n e =
    let p = both 256 (pair x y) (pair z w) (omega arith) in
    let a : x ∷ y ∷ [] ≡ hex_text 2 (n / 16 / 16) = pair_text x y (n / 16 / 16) (omega arith) in
    let b : z ∷ w ∷ [] ≡ hex_text 2 n = pair_text z w n (omega arith) in
    ap₂ (λ (s t : List ℕ). s ++ t) a b

word_text : (a b c d e f g h n : ℕ) → joined 65536 (half a b c d) (half e f g h) ≡ n → n < 0x100000000
    → a ∷ b ∷ c ∷ d ∷ e ∷ f ∷ g ∷ h ∷ [] ≡ hex_text 8 n
unfolding hex_text
word_text a b c d e f g h n q l =
    let p = both 65536 (half a b c d) (half e f g h) (omega arith) in
    let s : a ∷ b ∷ c ∷ d ∷ [] ≡ hex_text 4 (n / 16 / 16 / 16 / 16) = half_text a b c d (n / 16 / 16 / 16 / 16) (omega arith) in
    let t : e ∷ f ∷ g ∷ h ∷ [] ≡ hex_text 4 n = half_text e f g h n (omega arith) in
    ap₂ (λ (u v : List ℕ). u ++ v) s t

-- ---- where they stand
module _ (tail : List ℕ) where
  -- n bytes from a place on
  part : ℕ → ℕ → List ℕ
  part zero at = []
  part (suc n) at = get_or tail at 0 ∷ part n (suc at)

  part_is : (n at : ℕ) → at + n ≤ length tail → take n (drop at tail) ≡ part n at
  unfolding part
  part_is zero at h = refl
  part_is (suc n) at h = rw (drop-cons tail at 0 (omega arith)) (ap (λ (r : List ℕ). get_or tail at 0 ∷ r) (part_is n (suc at) (omega arith)))

  word_part : (at : ℕ) → word_of tail (at + 1) < 0x100000000 → part 8 (suc at) ≡ hex_text 8 (word_of tail (at + 1))
  unfolding part
  word_part at h = word_text _ _ _ _ _ _ _ _ (word_of tail (at + 1)) (simp towards_suc) h

  pub read_corner : (k : ℕ) → 9 * k + 9 ≤ length tail → corner_bits tail k < 0x100000000 → take 9 (drop (9 * k) tail) ≡ corner (corner_bits tail k)
  unfolding corner_bits part
  read_corner k l h =
      let t = passed (eqb (get_or tail (9 * k) 0) 32) (word_of tail (9 * k + 1)) 0x100000000 h in
      let s = eqb-true (get_or tail (9 * k) 0) 32 t in
      let e : word_of tail (9 * k + 1) ≡ corner_bits tail k = sym (after_space tail k s) in
      part_is 9 (9 * k) l ∙ (λ i. s i ∷ (word_part (9 * k) (omega arith) ∙ ap (hex_text 8) e) i)
