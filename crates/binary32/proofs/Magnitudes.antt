-- The magnitude and the sign of what is rounded, multiplied and subtracted: a product's magnitude is that of the magnitudes, its sign is the
-- product's of the signs, and x - y and y - x differ in sign alone. Assumes nothing.
use mathlib.Core.Path.{◌≡◌, refl, sym, ap, ◌∙◌, subst}
use mathlib.Core.Logic.{◌⊎◌, inl, inr}
use mathlib.Core.Bool.{Bool, true, false, not, ◌&&◌, ◌||◌, cond, true≢false, not-not}
use Prim.Native.Nat.{ℕ, zero, suc, ◌+◌, ◌-◌, ◌*◌, ◌^◌, ◌<◌, ◌≤◌}
use native.Mathlib.Nat.{zero-mul, mul_comm, mul-pos, eq-or-lt_of_le, le_refl}
use native.Mathlib.Omega.{arith}
use borrow.Author.Tests.{lt-ltb, le-ltb, eq-eqb, ne_eqb}
use lib.Dec.{T, ltb, eqb, ltb→lt, nltb→le}
use lib.IntN.{ℤ, pos}
use lib.Ieee.{Float, nan, inf, fin, Format, binary32, prec, emax, low, up, down, unlike, odd, units, round, sub, mul, lt, le, is_nan}
use lib.Ieee.Fits.{round_is, up_pos, down_pos}
use lib.Ieee.Positive.{positive, above, above_of_le, mul_mono}
use Rattle.binary32.proofs.Finite.{round_nought}
use Rattle.binary32.specs.Numbers.{magnitude}

-- whether x is written with a minus; a NaN has no sign
abbrev pub sgn : Float → Bool
sgn nan = false
sgn (inf s) = s
sgn (fin s m e) = s

-- ---- what is rounded
module _ (f : Format) (s : Bool) where
  odd_told : (d q k l : ℕ) → (magnitude (odd d s q k l) ≡ odd d false q k l) × (sgn (odd d s q k l) ≡ s) × (is_nan (odd d s q k l) ≡ false)
  unfolding odd is_nan
  odd_told d zero k l = (refl, refl, refl)
  odd_told d (suc q) k l = (refl, refl, refl)

  units_told : (q k : ℕ) → (magnitude (units f s q k) ≡ units f false q k) × (sgn (units f s q k) ≡ s) × (is_nan (units f s q k) ≡ false)
  unfolding units is_nan
  units_told q k = go (ltb (q * 2 ^ k) (2 ^ (low f + suc (emax f))))
    where
      go : (b : Bool) → (magnitude (cond b (odd (suc (prec f)) s q k (low f)) (inf s)) ≡ cond b (odd (suc (prec f)) false q k (low f)) (inf false))
          × (sgn (cond b (odd (suc (prec f)) s q k (low f)) (inf s)) ≡ s)
          × (is_nan (cond b (odd (suc (prec f)) s q k (low f)) (inf s)) ≡ false)
      go true = odd_told (suc (prec f)) q k (low f)
      go false = (refl, refl, refl)

  pub round_told : (n d : ℕ) → (magnitude (round f s n d) ≡ round f false n d) × (sgn (round f s n d) ≡ s) × (is_nan (round f s n d) ≡ false)
  round_told n d = rw (round_is f s n d, round_is f false n d) (units_told _ _)

-- ---- a product
unlike_comm : (s t : Bool) → unlike s t ≡ unlike t s
unlike_comm true true = refl
unlike_comm true false = refl
unlike_comm false true = refl
unlike_comm false false = refl

module _ (f : Format) where
  scaled_inf : (s t : Bool) (n : ℕ) → magnitude (cond (eqb n 0) nan (inf (unlike s t))) ≡ cond (eqb n 0) nan (inf false)
  scaled_inf s t n = go (eqb n 0)
    where
      go : (b : Bool) → magnitude (cond b nan (inf (unlike s t))) ≡ cond b nan (inf false)
      go true = refl
      go false = refl

  scaled_sgn : (s : Bool) (n : ℕ) → is_nan (cond (eqb n 0) nan (inf s)) ≡ false → sgn (cond (eqb n 0) nan (inf s)) ≡ s
  scaled_sgn s n = go (eqb n 0)
    where
      go : (b : Bool) → is_nan (cond b nan (inf s)) ≡ false → sgn (cond b nan (inf s)) ≡ s
      go true h = absurd (true≢false (unfold is_nan in h))
      go false h = refl

  pub magnitude_mul : (x y : Float) → magnitude (mul f x y) ≡ mul f (magnitude x) (magnitude y)
  unfolding mul
  magnitude_mul nan y = refl
  magnitude_mul (inf s) nan = refl
  magnitude_mul (inf s) (inf t) = refl
  magnitude_mul (inf s) (fin t n d) = scaled_inf s t n
  magnitude_mul (fin s m e) nan = refl
  magnitude_mul (fin s m e) (inf t) = scaled_inf s t m
  magnitude_mul (fin s m e) (fin t n d) = (round_told f (unlike s t) (m * up e * (n * up d)) (down e * down d)).0

  pub sgn_mul : (x y : Float) → is_nan (mul f x y) ≡ false → sgn (mul f x y) ≡ unlike (sgn x) (sgn y)
  unfolding mul is_nan
  sgn_mul nan y h = absurd (true≢false h)
  sgn_mul (inf s) nan h = absurd (true≢false h)
  sgn_mul (inf s) (inf t) h = refl
  sgn_mul (inf s) (fin t n d) h = scaled_sgn (unlike s t) n h
  sgn_mul (fin s m e) nan h = absurd (true≢false h)
  sgn_mul (fin s m e) (inf t) h = scaled_sgn (unlike s t) m h
  sgn_mul (fin s m e) (fin t n d) h = (round_told f (unlike s t) (m * up e * (n * up d)) (down e * down d)).1

  pub mul_nan : (x : Float) → mul f x nan ≡ nan
  unfolding mul
  mul_nan nan = refl
  mul_nan (inf s) = refl
  mul_nan (fin s m e) = refl

  pub mul_comm_float : (x y : Float) → mul f x y ≡ mul f y x
  unfolding mul
  mul_comm_float nan nan = refl
  mul_comm_float nan (inf t) = refl
  mul_comm_float nan (fin t n d) = refl
  mul_comm_float (inf s) nan = refl
  mul_comm_float (inf s) (inf t) = ap inf (unlike_comm s t)
  mul_comm_float (inf s) (fin t n d) = ap (λ (u : Bool). cond (eqb n 0) nan (inf u)) (unlike_comm s t)
  mul_comm_float (fin s m e) nan = refl
  mul_comm_float (fin s m e) (inf t) = ap (λ (u : Bool). cond (eqb m 0) nan (inf u)) (unlike_comm s t)
  mul_comm_float (fin s m e) (fin t n d) = λ i. round f (unlike_comm s t i) (mul_comm (m * up e) (n * up d) i) (mul_comm (down e) (down d) i)

some : (m : ℕ) (e : ℤ) → T (ltb 0 m) → 0 < m * up e
some m e h = mul-pos (ltb→lt 0 m h) (up_pos e)

-- ---- a value that is not zero is at least zero exactly where its sign is plus
pub sign_test : (x : Float) → T (above (magnitude x)) → le (fin false 0 (pos 0)) x ≡ not (sgn x)
unfolding le
sign_test nan h = absurd h
sign_test (inf true) h = refl
sign_test (inf false) h = refl
sign_test (fin true m e) h = rw (zero-mul (down e), ne_eqb 0 (m * up e * 1) (λ z. omega (arith, z, some m e h)))
sign_test (fin false m e) h = rw (zero-mul (down e), lt-ltb 0 (m * up e * 1) (omega (arith, some m e h)))

-- ---- a product grows with its factors, infinities included
at_inf : (l : Float) → T (positive l) → (n : ℕ) → T (ltb 0 n) → T (le l (cond (eqb n 0) nan (inf false)))
unfolding le
at_inf nan p n h = absurd p
at_inf (inf s) p n h = absurd p
at_inf (fin true m e) p n h = absurd p
at_inf (fin false m e) p n h = let z = ltb→lt 0 n h in rw (ne_eqb n 0 (λ o. omega (arith, o))) tt

pub le_mul : (l k x y : Float) → T (positive l) → T (positive k) → T (positive (mul binary32 l k)) → T (le l x) → T (le k y) → T (le (mul binary32 l k) (mul binary32 x y))
le_mul l k x y p q r h g = go x y (above_of_le l x p h) (above_of_le k y q g) h g
  where
    go : (x y : Float) → T (above x) → T (above y) → T (le l x) → T (le k y) → T (le (mul binary32 l k) (mul binary32 x y))
    go nan y a b h g = absurd a
    go (inf true) y a b h g = absurd a
    go (inf false) nan a b h g = absurd b
    go (inf false) (inf true) a b h g = absurd b
    go (inf false) (inf false) a b h g = unfold mul in at_inf (mul binary32 l k) r 1 tt
    go (inf false) (fin true n d) a b h g = absurd b
    go (inf false) (fin false n d) a b h g = unfold mul in at_inf (mul binary32 l k) r n b
    go (fin true m e) y a b h g = absurd a
    go (fin false m e) nan a b h g = absurd b
    go (fin false m e) (inf true) a b h g = absurd b
    go (fin false m e) (inf false) a b h g = unfold mul in at_inf (mul binary32 l k) r m a
    go (fin false m e) (fin true n d) a b h g = absurd b
    go (fin false m e) (fin false n d) a b h g = mul_mono binary32 l (fin false m e) k (fin false n d) p a q b h g

-- ---- what is not below l, a value above zero, is at least l
at_least : (a b : ℕ) → b ≤ a → T (ltb b a || (eqb b a && true))
at_least a b h = elim (eq-or-lt_of_le h) [ inl e ↦ rw (e, le-ltb a a (le_refl a), eq-eqb a a refl) tt | inr l ↦ rw (lt-ltb b a l) tt ]

pub not_less : (l x : Float) → T (positive l) → is_nan x ≡ false → lt (magnitude x) l ≡ false → T (le l (magnitude x))
unfolding le is_nan
not_less nan x p r h = absurd p
not_less (inf s) x p r h = absurd p
not_less (fin true m e) x p r h = absurd p
not_less (fin false m e) nan p r h = absurd (true≢false r)
not_less (fin false m e) (inf t) p r h = tt
not_less (fin false m e) (fin t n d) p r h = at_least (n * up d * down e) (m * up e * down d) (nltb→le (n * up d * down e) (m * up e * down d) (subst (λ (b : Bool). T (not b)) (sym h) tt))

pub above_real : (x : Float) → T (above (magnitude x)) → is_nan x ≡ false
unfolding is_nan
above_real nan h = absurd h
above_real (inf s) h = refl
above_real (fin s m e) h = refl

-- ---- a value with a magnitude above zero and a plus is its magnitude
pub positive_above : (x : Float) → T (positive x) → T (above x)
positive_above nan p = absurd p
positive_above (inf s) p = absurd p
positive_above (fin true m e) p = absurd p
positive_above (fin false m e) p = p

pub plain : (x : Float) → T (positive (magnitude x)) → sgn x ≡ false → T (positive x)
plain nan p h = absurd p
plain (inf s) p h = absurd p
plain (fin true m e) p h = absurd (true≢false h)
plain (fin false m e) p h = p

-- ---- x - y and y - x, for x and y above zero
pub record Swapped (v w : Float) : Type 0 where
  pub alike : magnitude v ≡ magnitude w
  pub against : (sgn v ≡ not (sgn w)) ⊎ (magnitude v ≡ fin false 0 (pos 0))
  pub real : is_nan v ≡ false

opposite : (s : Bool) (n c : ℕ) → Swapped (round binary32 s n c) (round binary32 (not s) n c)
opposite s n c =
    let here = round_told binary32 s n c in
    let there = round_told binary32 (not s) n c in
    record { alike = here.0 ∙ sym there.0; against = inl (here.1 ∙ sym (not-not s) ∙ ap not (sym there.1)); real = here.2 }

module _ (a b c : ℕ) (C : 0 < c) where
  differ : (p q : Bool) → (T p → a < b) → (T (not p) → b ≤ a) → (T q → b < a) → (T (not q) → a ≤ b)
      → Swapped (cond p (round binary32 true (b - a) c) (round binary32 false (a - b) c)) (cond q (round binary32 true (a - b) c) (round binary32 false (b - a) c))
  differ true true h h' g g' = absurd (omega (arith, h tt, g tt))
  differ true false h h' g g' = opposite true (b - a) c
  differ false true h h' g g' = opposite false (a - b) c
  differ false false h h' g g' =
      let z : (a - b ≡ 0) × (b - a ≡ 0) = omega (arith, h' tt, g' tt) in
      let v : round binary32 false (a - b) c ≡ fin false 0 (pos 0) = ap (λ (n : ℕ). round binary32 false n c) z.0 ∙ round_nought false c C in
      let w : round binary32 false (b - a) c ≡ fin false 0 (pos 0) = ap (λ (n : ℕ). round binary32 false n c) z.1 ∙ round_nought false c C in
      record { alike = ap magnitude (v ∙ sym w); against = inr (ap magnitude v); real = (round_told binary32 false (a - b) c).2 }

swapped_fin : (m : ℕ) (e : ℤ) (n : ℕ) (d : ℤ) → Swapped (sub binary32 (fin false m e) (fin false n d)) (sub binary32 (fin false n d) (fin false m e))
unfolding sub
swapped_fin m e n d =
    let a = m * up e * down d in
    let b = n * up d * down e in
    rw (mul_comm (down d) (down e))
    (differ a b (down e * down d) (mul-pos (down_pos e) (down_pos d)) (ltb a b) (ltb b a) (ltb→lt a b) (nltb→le a b) (ltb→lt b a) (nltb→le b a))

pub sub_swapped : (x y : Float) → T (positive x) → T (positive y) → Swapped (sub binary32 x y) (sub binary32 y x)
sub_swapped nan y p q = absurd p
sub_swapped (inf s) y p q = absurd p
sub_swapped (fin true m e) y p q = absurd p
sub_swapped (fin false m e) nan p q = absurd q
sub_swapped (fin false m e) (inf t) p q = absurd q
sub_swapped (fin false m e) (fin true n d) p q = absurd q
sub_swapped (fin false m e) (fin false n d) p q = swapped_fin m e n d
