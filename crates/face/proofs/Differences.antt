-- The rounded difference of two rounded products, beside the exact one. The exact products are P / W and Q / W: the difference is at least 2 ^ -23 in magnitude where
-- |P - Q| / W is at least 2 ^ -22 and at least 2 ^ -22 × (P + Q) / W, and wherever it is, it has the sign of P - Q. Assumes nothing.
use mathlib.Core.Path.{◌≡◌, refl, sym, ap, ◌∙◌, subst}
use mathlib.Core.Logic.{inl, inr}
use mathlib.Core.Bool.{Bool, true, false, cond, true≢false}
use Prim.Native.Nat.{ℕ, ◌+◌, ◌-◌, ◌*◌, ◌/◌, ◌^◌, ◌<◌, ◌≤◌}
use native.Mathlib.Nat.{le_trans, le_of_eq, le_antisymm, mul_comm, mul_assoc, add-mul, one-mul, mul_right_comm, mul-pos, mul-sub, mul-le-mul_right, le_of_mul-le-mul_right, sub_self}
use native.Mathlib.Omega.{arith}
use borrow.Author.Tests.{lt-ltb, le-ltb}
use lib.Dec.{T, ltb}
use lib.IntN.{pos}
use lib.Pow.{pow_pos}
use lib.Ieee.{Float, nan, inf, fin, binary32, prec, low, up, down, size, round, sub, le}
use lib.Ieee.Exact.{HasValue}
use lib.Ieee.Fits.{down_pos}
use lib.Ieee.Order.{round_mono}
use lib.Ieee.Positive.{positive, positive-finite, values_of_le}
use lib.Ieee.Scale.{grid, round_same, round_under, round_val}
use Rattle.std.proofs.lemmas.Bool.{cases_lt}
use Rattle.binary32.specs.Numbers.{magnitude, epsilon}
use Rattle.binary32.proofs.Finite.{round_nought}
use Rattle.binary32.proofs.Magnitudes.{sgn, round_told}
use Rattle.binary32.proofs.Wholes.{ltb_times}
use Rattle.binary32.proofs.Rounding.{Within, rounded_near}
use Rattle.face.specs.TrueJoin.{parts_of_one, parts_of_sum}

-- ---- x - y, for x = g / L and y = h / L
-- a * L = g * c and b * L = h * c: a / c and b / c are g / L and h / L
module _ (a b c g h L : ℕ) (C : 0 < c) (P : 0 < L) (p : a * L ≡ g * c) (q : b * L ≡ h * c) where
  same_order : ltb a b ≡ ltb g h
  same_order = sym (ltb_times a b L P) ∙ (λ i. ltb (p i) (q i)) ∙ ltb_times g h c C

  same_rest : (b - a) * L ≡ (h - g) * c
  same_rest = mul_comm (b - a) L ∙ mul-sub L b a ∙ (λ i. mul_comm L b i - mul_comm L a i) ∙ (λ i. q i - p i) ∙ (λ i. mul_comm h c i - mul_comm g c i) ∙ sym (mul-sub c h g) ∙ mul_comm c (h - g)

-- their difference, rounded once
abbrev pub less : ℕ → ℕ → ℕ → Float
less g h L = cond (ltb g h) (round binary32 true (h - g) L) (round binary32 false (g - h) L)

pub sub_at : (x y : Float) (g h L : ℕ) → 0 < L → HasValue x false g L → HasValue y false h L → sub binary32 x y ≡ less g h L
unfolding sub
sub_at nan y g h L P p q = absurd p
sub_at (inf s) y g h L P p q = absurd p
sub_at (fin true m e) y g h L P p q = absurd (true≢false p.0)
sub_at (fin false m e) nan g h L P p q = absurd q
sub_at (fin false m e) (inf t) g h L P p q = absurd q
sub_at (fin false m e) (fin true n d) g h L P p q = absurd (true≢false q.0)
sub_at (fin false m e) (fin false n d) g h L P p q =
    let a = m * up e * down d in
    let b = n * up d * down e in
    let c = down e * down d in
    let C : 0 < c = mul-pos (down_pos e) (down_pos d) in
    let u : a * L ≡ g * c = mul_right_comm (m * up e) (down d) L ∙ ap (λ (z : ℕ). z * down d) p.1 ∙ mul_assoc g (down e) (down d) in
    let v : b * L ≡ h * c = mul_right_comm (n * up d) (down e) L ∙ ap (λ (z : ℕ). z * down e) q.1 ∙ mul_assoc h (down d) (down e) ∙ ap (λ (z : ℕ). h * z) (mul_comm (down d) (down e)) in
    (λ i. cond (same_order a b c g h L C P u v i) (round binary32 true (b - a) c) (round binary32 false (a - b) c))
    ∙ (λ i. cond (ltb g h) (round_same binary32 true (b - a) c (h - g) L C P (same_rest a b c g h L C P u v) i) (round_same binary32 false (a - b) c (g - h) L C P (same_rest b a c h g L C P v u) i))

-- ---- a product P / W that is rounded in the normal range, to a value above zero
pub record Product (P W : ℕ) : Type 0 where
  pub divisor : 0 < W
  pub plus : T (positive (round binary32 false P W))
  pub normal : prec binary32 ≤ size (P * 2 ^ low binary32 / W)

-- the rounded product is so many times 2 ^ -149
abbrev pub rounded : ℕ → ℕ → ℕ
rounded P W = grid binary32 P W

module _ (P W : ℕ) (p : Product P W) where
  pub value : HasValue (round binary32 false P W) false (rounded P W) (2 ^ low binary32)
  value = round_val binary32 P W (round_under binary32 P W (positive-finite (round binary32 false P W) p.plus))

  pub error : Within (rounded P W * W * 2 ^ 24) (P * 2 ^ low binary32 * 2 ^ 24) (P * 2 ^ low binary32)
  error = rounded_near P W p.divisor p.normal

in_order : (P Q W : ℕ) → Product P W → Product Q W → P ≤ Q → rounded P W ≤ rounded Q W
in_order P Q W p q h =
    le_of_mul-le-mul_right
    (values_of_le (round binary32 false P W) (round binary32 false Q W) (rounded P W) (2 ^ low binary32) (rounded Q W) (2 ^ low binary32) p.plus q.plus (value P W p) (value Q W q)
    (round_mono binary32 P W Q W p.divisor q.divisor (mul-le-mul_right W h)))
    (pow_pos (low binary32))

-- ---- the arithmetic: x and y are n and m rounded, with n at least m, and w is 1, all in one unit. Three quarters of n - m are left at least
spread : (x y n m w : ℕ) → Within (x * 2 ^ 24) (n * 2 ^ 24) n → Within (y * 2 ^ 24) (m * 2 ^ 24) m → m ≤ n → n + m ≤ (n - m) * parts_of_sum → w ≤ (n - m) * parts_of_one → w ≤ (x - y) * 2 ^ 23
spread x y n m w a b o s l =
    let u = a.below in
    let v = b.above in
    omega arith

more : (g h L : ℕ) → 0 < L → L ≤ (h - g) * 2 ^ 23 → g < h
more g h L P l = omega arith

-- 2 ^ -23 and above, for N times 2 ^ -149
far : (N : ℕ) → 2 ^ low binary32 ≤ N * 2 ^ 23 → T (le epsilon (round binary32 false N (2 ^ low binary32)))
far N h = subst (λ (x : Float). T (le x (round binary32 false N (2 ^ low binary32)))) limit (round_mono binary32 1 (2 ^ 23) N (2 ^ low binary32) (pow_pos 23) (pow_pos (low binary32)) (le_trans (le_of_eq (one-mul (2 ^ low binary32))) h))
  where
    limit : round binary32 false 1 (2 ^ 23) ≡ epsilon
    limit = unfold round in refl

-- |P - Q|
abbrev pub gap : ℕ → ℕ → ℕ
gap P Q = cond (ltb P Q) (Q - P) (P - Q)

pub gap_below : (P Q : ℕ) → P < Q → gap P Q ≡ Q - P
gap_below P Q l = ap (λ (b : Bool). cond b (Q - P) (P - Q)) (lt-ltb P Q l)

pub gap_above : (P Q : ℕ) → Q ≤ P → gap P Q ≡ P - Q
gap_above P Q l = ap (λ (b : Bool). cond b (Q - P) (P - Q)) (le-ltb P Q l)

-- of two products the rounded ones are 2 ^ -23 apart at least, where the exact ones are far enough; P is the larger one
apart : (P Q W : ℕ) → Product P W → Product Q W → Q ≤ P → P + Q ≤ (P - Q) * parts_of_sum → W ≤ (P - Q) * parts_of_one → 2 ^ low binary32 ≤ (rounded P W - rounded Q W) * 2 ^ 23
apart P Q W p q h s l =
    let L = 2 ^ low binary32 in
    let g = rounded P W in
    let k = rounded Q W in
    let split : (c : ℕ) → (P - Q) * c * L ≡ (P * L - Q * L) * c =
    λ c. mul_right_comm (P - Q) c L ∙ ap (λ (z : ℕ). z * c) (sub-times P Q L) in
    let S : P * L + Q * L ≤ (P * L - Q * L) * parts_of_sum = le_trans (le_of_eq (sym (add-mul P Q L))) (le_trans (mul-le-mul_right L s) (le_of_eq (split parts_of_sum))) in
    let l' : W * L ≤ (P * L - Q * L) * parts_of_one = le_trans (mul-le-mul_right L l) (le_of_eq (split parts_of_one)) in
    let far : W * L ≤ (g * W - k * W) * 2 ^ 23 = spread (g * W) (k * W) (P * L) (Q * L) (W * L) (error P W p) (error Q W q) (mul-le-mul_right L h) S l' in
    le_of_mul-le-mul_right
    (le_trans (le_of_eq (mul_comm L W)) (le_trans far (le_of_eq (ap (λ (z : ℕ). z * 2 ^ 23) (sym (sub-times g k W)) ∙ mul_right_comm (g - k) W (2 ^ 23)))))
    p.divisor
  where
    sub-times : (a b c : ℕ) → (a - b) * c ≡ a * c - b * c
    sub-times a b c = mul_comm (a - b) c ∙ mul-sub c a b ∙ (λ i. mul_comm c a i - mul_comm c b i)

-- ---- the rounded difference of the rounded products
module _ (P Q W : ℕ) (p : Product P W) (q : Product Q W) where
  abbrev g : ℕ
  g = rounded P W

  abbrev h : ℕ
  h = rounded Q W

  abbrev L : ℕ
  L = 2 ^ low binary32

  abbrev pub change : Float
  change = sub binary32 (round binary32 false P W) (round binary32 false Q W)

  is_less : change ≡ less g h L
  is_less = sub_at (round binary32 false P W) (round binary32 false Q W) g h L (pow_pos (low binary32)) (value P W p) (value Q W q)

  below : g < h → change ≡ round binary32 true (h - g) L
  below l = is_less ∙ ap (λ (b : Bool). cond b (round binary32 true (h - g) L) (round binary32 false (g - h) L)) (lt-ltb g h l)

  not_below : h ≤ g → change ≡ round binary32 false (g - h) L
  not_below l = is_less ∙ ap (λ (b : Bool). cond b (round binary32 true (h - g) L) (round binary32 false (g - h) L)) (le-ltb g h l)

  -- products that round alike leave a zero
  level : g ≡ h → T (le epsilon (magnitude change)) → ⊥
  unfolding le
  level e t = nothing (subst (λ (x : Float). T (le epsilon (magnitude x))) (not_below (le_of_eq (sym e)) ∙ ap (λ (z : ℕ). round binary32 false z L) (ap (λ (z : ℕ). z - h) e ∙ sub_self h) ∙ round_nought false L (pow_pos (low binary32))) t)
    where
      nothing : T (le epsilon (magnitude (fin false 0 (pos 0)))) → ⊥
      nothing t = t

  -- at 2 ^ -23 and above it has the sign of the exact difference
  pub same_sign : T (le epsilon (magnitude change)) → (sgn change ≡ ltb P Q) × (0 < gap P Q)
  same_sign t = elim (cases_lt P Q) [
    | inl l ↦ (above_it l, subst (λ (z : ℕ). 0 < z) (sym (gap_below P Q l)) (omega arith))
    | inr l ↦ (under_it l, subst (λ (z : ℕ). 0 < z) (sym (gap_above P Q l)) (left l))
  ]
    where
      above_it : P < Q → sgn change ≡ ltb P Q
      above_it l = elim (cases_lt g h) [
        | inl k ↦ ap sgn (below k) ∙ (round_told binary32 true (h - g) L).1 ∙ sym (lt-ltb P Q l)
        | inr k ↦ absurd (level (le_antisymm (in_order P Q W p q (omega arith)) k) t)
      ]

      under_it : Q ≤ P → sgn change ≡ ltb P Q
      under_it l = ap sgn (not_below (in_order Q P W q p l)) ∙ (round_told binary32 false (g - h) L).1 ∙ sym (le-ltb P Q l)

      left : Q ≤ P → 0 < P - Q
      left l = elim (cases_lt Q P) [
        | inl k ↦ omega arith
        | inr k ↦ absurd (level (ap (λ (z : ℕ). rounded z W) (le_antisymm k l)) t)
      ]

  -- it is 2 ^ -23 at least, where the exact products are far enough from each other
  pub no_tie : P + Q ≤ gap P Q * parts_of_sum → W ≤ gap P Q * parts_of_one → T (le epsilon (magnitude change))
  no_tie s l = elim (cases_lt P Q) [
    | inl k ↦
        let e = gap_below P Q k in
        let n : L ≤ (h - g) * 2 ^ 23 = apart Q P W q p (omega arith) (subst (λ (z : ℕ). Q + P ≤ z * parts_of_sum) e (omega arith)) (subst (λ (z : ℕ). W ≤ z * parts_of_one) e l) in
        subst (λ (x : Float). T (le epsilon x)) (sym (ap magnitude (below (more g h L (pow_pos (low binary32)) n)) ∙ (round_told binary32 true (h - g) L).0)) (far (h - g) n)
    | inr k ↦
        let e = gap_above P Q k in
        let n : L ≤ (g - h) * 2 ^ 23 = apart P Q W p q k (subst (λ (z : ℕ). P + Q ≤ z * parts_of_sum) e s) (subst (λ (z : ℕ). W ≤ z * parts_of_one) e l) in
        subst (λ (x : Float). T (le epsilon x)) (sym (ap magnitude (not_below (in_order Q P W q p k)) ∙ (round_told binary32 false (g - h) L).0)) (far (g - h) n)
  ]
