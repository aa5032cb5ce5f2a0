-- Change 6: of four values that alternate in range an answer that is no tie is the one of the exact sign, and it is no tie where E is far enough from zero. Assumes nothing.
use mathlib.Core.Path.{◌≡◌, refl, sym, ap, ◌∙◌, subst}
use mathlib.Core.Logic.{inl, inr}
use mathlib.Core.Bool.{Bool, true, false, not, beq, true≢false}
use Prim.Native.Nat.{ℕ, zero, suc, ◌+◌, ◌*◌, ◌^◌, ◌<◌, ◌≤◌}
use native.Mathlib.Nat.{le_trans, le_of_eq, mul-pos, mul-le-mul, mul-le-mul_left, mul-mul-mul_comm, zero-lt-suc}
use native.Mathlib.Omega.{arith}
use borrow.Author.Tests.{lt-ltb, le-ltb}
use lib.Dec.{T, ltb, leb→le, lit≤}
use lib.IntN.{ℤ, pos, negsuc, neg_ℤ, nat_abs, ◌*ℤ◌, ◌-ℤ◌}
use lib.Signed.{non_neg}
use lib.Pow.{pow-add, pow_pos}
use lib.Ieee.{Float, nan, inf, fin, binary32, unlike, round, sub, mul, le, of_bits}
use lib.Ieee.Exact.{HasValue}
use lib.Ieee.Positive.{positive, values_of_le, value_pos, mul_at}
use lib.Ieee.Scale.{normal_of_fraction}
use Rattle.std.proofs.lemmas.Bool.{cases_lt}
use Rattle.binary32.specs.Numbers.{f32, magnitude, epsilon}
use Rattle.binary32.specs.Range.{least, in_range}
use Rattle.binary32.specs.Wholes.{Exactly}
use Rattle.binary32.proofs.Magnitudes.{sgn, positive_above, magnitude_mul}
use Rattle.binary32.proofs.Wholes.{size_exactly, sign_exactly}
use Rattle.cube.specs.declared.Cube.{Cube}
use Rattle.face.specs.Face.{rule, face_by, face_of, is_face, is_positive}
use Rattle.face.specs.TrueJoin.{Over, e_of, s_of, parts_of_one, parts_of_sum, far_from_zero, far_for_sum, true_answer, untied, TrueJoin, NoTieIsTrue, TrueJoinAt, NoTieIsTrueAt}
use Rattle.face.proofs.Decision.{Ranged, Square, square, has_size, product, low_end, least_positive, in_range_positive, val, kept_untied, decided}
use Rattle.face.proofs.Differences.{Product, change, gap, same_sign, no_tie}

by_signs : (p s x : Bool) → beq p (not (unlike s x)) ≡ beq (beq p (not s)) (not x)
by_signs true true true = refl
by_signs true true false = refl
by_signs true false true = refl
by_signs true false false = refl
by_signs false true true = refl
by_signs false true false = refl
by_signs false false true = refl
by_signs false false false = refl

-- a face number is not 0, so that it is positive where it is not negative
of_face : (n : ℤ) → T (is_face n) → (is_positive n ≡ non_neg n) × (0 < nat_abs n)
of_face (pos zero) t = absurd t
of_face (pos (suc m)) t = (lt-ltb 0 (suc m) (zero-lt-suc m), zero-lt-suc m)
of_face (negsuc m) t = (refl, zero-lt-suc m)

-- ---- products and differences of signed numbers
-- of two with one sign
alike : (X Y : ℤ) → non_neg X ≡ non_neg Y → X *ℤ Y ≡ pos (nat_abs X * nat_abs Y)
alike (pos x) (pos y) e = refl
alike (pos x) (negsuc y) e = absurd (true≢false e)
alike (negsuc x) (pos y) e = absurd (true≢false (sym e))
alike (negsuc x) (negsuc y) e = refl

minus_size : (n : ℕ) → 0 < n → (nat_abs (neg_ℤ (pos n)) ≡ n) × (non_neg (neg_ℤ (pos n)) ≡ false)
minus_size zero h = absurd (omega arith)
minus_size (suc n) h = (refl, refl)

-- of two that are not 0
sign_mul : (X Y : ℤ) → 0 < nat_abs X → 0 < nat_abs Y → (nat_abs (X *ℤ Y) ≡ nat_abs X * nat_abs Y) × (non_neg (X *ℤ Y) ≡ beq (non_neg X) (non_neg Y))
sign_mul (pos x) (pos y) p q = (refl, refl)
sign_mul (pos x) (negsuc y) p q = minus_size (x * suc y) (mul-pos p q)
sign_mul (negsuc x) (pos y) p q = minus_size (suc x * y) (mul-pos p q)
sign_mul (negsuc x) (negsuc y) p q = (refl, refl)

taken : (P Q : ℕ) → (nat_abs (pos P -ℤ pos Q) ≡ gap P Q) × (non_neg (pos P -ℤ pos Q) ≡ not (ltb P Q))
taken P zero = rw (le-ltb P 0 (omega arith)) (omega arith, refl)
taken P (suc q) = elim (cases_lt P (suc q)) [ inl l ↦ rw (lt-ltb P (suc q) l) (omega arith, refl) | inr l ↦ rw (le-ltb P (suc q) l) (refl, refl) ]

-- ---- a product of two values in range
-- a value that is above zero is its magnitude
itself : (x : Float) → T (positive x) → x ≡ magnitude x
itself nan p = absurd p
itself (inf t) p = absurd p
itself (fin true m e) p = absurd p
itself (fin false m e) p = refl

least_value : HasValue least false 8796093 (2 ^ 43)
unfolding of_bits
least_value = (refl, refl)

-- 2 ^ -20 and above
above_least : (k X : ℕ) (x : Float) → T (in_range x) → HasValue x false X (2 ^ k) → 2 ^ k ≤ X * 2 ^ 20
above_least k X x t h =
    let l : 8796093 * 2 ^ k ≤ X * 2 ^ 43 = values_of_le least x 8796093 (2 ^ 43) X (2 ^ k) least_positive (in_range_positive x t) least_value h (low_end x t) in
    omega arith

-- its exact size, over 2 ^ k × 2 ^ k
abbrev pub sizes : ℤ → ℤ → ℕ
sizes X Y = nat_abs X * nat_abs Y

abbrev over : ℕ → ℕ
over k = 2 ^ k * 2 ^ k

module _ (k : ℕ) {s : Bool} {x y : Float} (X Y : ℤ) (r : Ranged s x) (q : Ranged s y) (ex : Exactly k x X) (ey : Exactly k y Y) where
  product_is : mul binary32 x y ≡ round binary32 false (sizes X Y) (over k)
  product_is =
      itself (mul binary32 x y) (product r q)
      ∙ magnitude_mul binary32 x y
      ∙ mul_at binary32 (magnitude x) (magnitude y) (nat_abs X) (2 ^ k) (nat_abs Y) (2 ^ k) (has_size r) (has_size q) (pow_pos k) (pow_pos k) (size_exactly k x X ex) (size_exactly k y Y ey)

  is_product : Product (sizes X Y) (over k)
  is_product =
      let l : 2 ^ k * 2 ^ k ≤ nat_abs X * 2 ^ 20 * (nat_abs Y * 2 ^ 20) = mul-le-mul (above_least k (nat_abs X) (magnitude x) r.size (size_exactly k x X ex)) (above_least k (nat_abs Y) (magnitude y) q.size (size_exactly k y Y ey)) in
      let m : nat_abs X * 2 ^ 20 * (nat_abs Y * 2 ^ 20) ≡ sizes X Y * 2 ^ 40 = mul-mul-mul_comm (nat_abs X) (2 ^ 20) (nat_abs Y) (2 ^ 20) in
      let h : 2 ^ 23 * over k ≤ sizes X Y * 2 ^ 63 = omega arith in
      record {
        divisor = mul-pos (pow_pos k) (pow_pos k);
        plus = subst (λ (z : Float). T (positive z)) product_is (product r q);
        normal = normal_of_fraction binary32 (sizes X Y) (over k) (mul-pos (pow_pos k) (pow_pos k)) (le_trans h (mul-le-mul_left (sizes X Y) (lit≤ tt)));
      }

-- ---- the whole number of a value in range: its sign, and that it is not 0
module _ (k : ℕ) {s : Bool} {x : Float} (X : ℤ) (r : Ranged s x) (e : Exactly k x X) where
  sign_is : non_neg X ≡ not s
  sign_is = sign_exactly k x X (positive_above (magnitude x) (has_size r)) e ∙ ap not r.sign

  some : 0 < nat_abs X
  some = value_pos (magnitude x) (nat_abs X) (2 ^ k) (has_size r) (pow_pos k) (size_exactly k x X e)

-- ---- four values that alternate
module _ (k : ℕ) (a b c d : Float) (A B C D : ℤ) {s : Bool} (q : Square s a b c d) (o : Over k a b c d A B C D) where
  abbrev P : ℕ
  P = sizes A C

  abbrev Q : ℕ
  Q = sizes B D

  abbrev W : ℕ
  W = over k

  first : Product P W
  first = is_product k A C q.at_a q.at_c o.at_a o.at_c

  second : Product Q W
  second = is_product k B D q.at_b q.at_d o.at_b o.at_d

  val_is : val a b c d ≡ change P Q W first second
  val_is = λ i. sub binary32 (product_is k A C q.at_a q.at_c o.at_a o.at_c i) (product_is k B D q.at_b q.at_d o.at_b o.at_d i)

  pub ac : A *ℤ C ≡ pos P
  ac = alike A C (sign_is k A q.at_a o.at_a ∙ sym (sign_is k C q.at_c o.at_c))

  pub bd : B *ℤ D ≡ pos Q
  bd = alike B D (sign_is k B q.at_b o.at_b ∙ sym (sign_is k D q.at_d o.at_d))

  pub e_size : nat_abs (e_of A B C D) ≡ gap P Q
  e_size = (λ i. nat_abs (ac i -ℤ bd i)) ∙ (taken P Q).0

  e_sign : non_neg (e_of A B C D) ≡ not (ltb P Q)
  e_sign = (λ i. non_neg (ac i -ℤ bd i)) ∙ (taken P Q).1

  s_is : s_of A B C D ≡ P + Q
  s_is = λ i. nat_abs (ac i) + nat_abs (bd i)

  untied_where_far : T (far_from_zero k A B C D) → T (far_for_sum A B C D) → T (untied a b c d)
  unfolding far_from_zero far_for_sum untied
  untied_where_far f g =
      let l : W ≤ gap P Q * parts_of_one = le_trans (le_of_eq (sym (pow-add 2 k k))) (subst (λ (z : ℕ). 2 ^ (k + k) ≤ z * parts_of_one) e_size (leb→le (2 ^ (k + k)) (nat_abs (e_of A B C D) * parts_of_one) f)) in
      let m : P + Q ≤ gap P Q * parts_of_sum = subst (λ (z : ℕ). P + Q ≤ z * parts_of_sum) e_size (le_trans (le_of_eq (sym s_is)) (leb→le (s_of A B C D) (nat_abs (e_of A B C D) * parts_of_sum) g)) in
      subst (λ (x : Float). T (le epsilon (magnitude x))) (sym val_is) (no_tie P Q W first second m l)

  -- the exact sign of face × a × E, where E is not 0
  pub exact_sign : (n : ℤ) → T (is_face n) → 0 < gap P Q → true_answer n A B C D ≡ beq (beq (is_positive n) (not s)) (not (ltb P Q))
  unfolding true_answer
  exact_sign n t g =
      let f = of_face n t in
      let na = sign_mul n A f.1 (some k A q.at_a o.at_a) in
      let all = sign_mul (n *ℤ A) (e_of A B C D) (subst (λ (z : ℕ). 0 < z) (sym na.0) (mul-pos f.1 (some k A q.at_a o.at_a))) (subst (λ (z : ℕ). 0 < z) (sym e_size) g) in
      all.1 ∙ (λ i. beq ((na.1 ∙ (λ j. beq (sym f.0 j) (sign_is k A q.at_a o.at_a j))) i) (e_sign i))

  -- where the rounded difference is no tie the rule gives it
  true_where_untied : (n : ℤ) → T (is_face n) → T (untied a b c d) → rule f32 n a b c d ≡ true_answer n A B C D
  unfolding untied
  true_where_untied n t u =
      let w = same_sign P Q W first second (subst (λ (x : Float). T (le epsilon (magnitude x))) val_is u) in
      decided n t a b c d q
      ∙ ap (beq (is_positive n)) (kept_untied a b c d u)
      ∙ (λ i. beq (is_positive n) (not (unlike (q.at_a.sign i) ((ap sgn val_is ∙ w.0) i))))
      ∙ by_signs (is_positive n) s (ltb P Q)
      ∙ sym (exact_sign n t w.1)

-- ---- as they are stated
pub no_tie_is_true : (n : ℤ) (a b c d : Float) (r : Bool) → r ≡ rule f32 n a b c d → NoTieIsTrue n a b c d r
no_tie_is_true n a b c d r e = record { no_tie = λ k A B C D t u o h. e ∙ true_where_untied k a b c d A B C D (square a b c d u).1 o n t h }

pub true_join : (n : ℤ) (a b c d : Float) (r : Bool) → r ≡ rule f32 n a b c d → TrueJoin n a b c d r
true_join n a b c d r e = record {
  far_enough = λ k A B C D t u o f g. (no_tie_is_true n a b c d r e).no_tie k A B C D t u o (untied_where_far k a b c d A B C D (square a b c d u).1 o f g);
}

pub no_tie_at : (q : Cube) (n : ℤ) (r : Bool) → r ≡ face_of q n → NoTieIsTrueAt q n r
unfolding face_of face_by
no_tie_at q n r e = no_tie_is_true n _ _ _ _ r e

pub true_join_at : (q : Cube) (n : ℤ) (r : Bool) → r ≡ face_of q n → TrueJoinAt q n r
unfolding face_of face_by
true_join_at q n r e = true_join n _ _ _ _ r e
