-- Four values that alternate in range decide once for all face numbers: the answer is the sign of the face number, kept or turned by one Bool of
-- the values, and the values read from the other side, d, c, b, a, have the same Bool. Assumes nothing.
use mathlib.Core.Path.{◌≡◌, refl, sym, ap, ◌∙◌, subst}
use mathlib.Core.Logic.{inl, inr}
use mathlib.Core.Bool.{Bool, true, false, not, ◌&&◌, cond, beq, not-not, true≢false}
use Prim.Native.Nat.{ℕ, suc, ◌≤◌}
use native.Mathlib.Nat.{mul-one, le_trans}
use borrow.Author.Tests.{lt-ltb}
use lib.Dec.{T, leb, leb→le, lit<, lit≤}
use lib.IntN.{ℤ, pos, negsuc}
use lib.Ieee.{Float, nan, inf, fin, binary32, unlike, round, neg, sub, mul, lt, le, of_bits, of_int}
use lib.Ieee.Fits.{and_l, and_r}
use lib.Ieee.Back.{round_whole}
use lib.Ieee.Exact.{HasValue}
use lib.Ieee.Order.{round_mono}
use lib.Ieee.Scale.{finite}
use lib.Ieee.Positive.{positive, above, above_of_le, between, mul_mono}
use Rattle.std.proofs.lemmas.Float.{lt_irrefl, lt_of_le_of_lt}
use Rattle.binary32.specs.Numbers.{f32, magnitude, epsilon}
use Rattle.binary32.specs.Range.{least, most, in_range}
use Rattle.binary32.proofs.Bools.{either, four}
use Rattle.binary32.proofs.Magnitudes.{sgn, round_told, magnitude_mul, sgn_mul, mul_comm_float, sign_test, le_mul, not_less, above_real, positive_above, plain, Swapped, sub_swapped}
use Rattle.binary32.proofs.Same.{Same, same_refl, mul_same}
use Rattle.face.specs.Face.{rule, is_face, is_positive}
use Rattle.face.specs.Laws.{up_and_down, alternate}

abbrev one : Float
one = fin false 1 (pos 0)

-- ---- one value of a sign, its magnitude in the range
pub record Ranged (s : Bool) (x : Float) : Type 0 where
  pub size : T (in_range (magnitude x))
  pub sign : sgn x ≡ s

pub low_end : (x : Float) → T (in_range x) → T (le least x)
unfolding in_range
low_end x t = and_l (le least x) (le x most) t

high_end : (x : Float) → T (in_range x) → T (le x most)
unfolding in_range
high_end x t = and_r (le least x) (le x most) t

pub least_positive : T (positive least)
unfolding of_bits
least_positive = tt

pub in_range_positive : (x : Float) → T (in_range x) → T (positive x)
in_range_positive x t = between least x most least_positive tt (low_end x t) (high_end x t)

up : (x : Float) → T (in_range x) → Ranged false x
up x t = go x (in_range_positive x t) t
  where
    go : (x : Float) → T (positive x) → T (in_range x) → Ranged false x
    go nan p t = absurd p
    go (inf s) p t = absurd p
    go (fin true m e) p t = absurd p
    go (fin false m e) p t = record { size = t; sign = refl }

down : (x : Float) → T (in_range (neg x)) → Ranged true x
unfolding neg
down x t = go x (in_range_positive (neg x) t) t
  where
    go : (x : Float) → T (positive (neg x)) → T (in_range (neg x)) → Ranged true x
    go nan p t = absurd p
    go (inf s) p t = absurd p
    go (fin true m e) p t = record { size = t; sign = refl }
    go (fin false m e) p t = absurd p

-- ---- two values of one sign have a product above zero and below the infinity
sizes_product : (x y : Float) → T (in_range x) → T (in_range y) → T (positive (mul binary32 x y))
sizes_product x y s t =
    let p = in_range_positive x s in
    let q = in_range_positive y t in
    between (mul binary32 least least) (mul binary32 x y) (mul binary32 most most) low high
    (mul_mono binary32 least x least y least_positive p least_positive q (low_end x s) (low_end y t))
    (mul_mono binary32 x most y most p tt q tt (high_end x s) (high_end y t))
  where
    low : T (positive (mul binary32 least least))
    low = unfold of_bits mul in tt

    high : T (positive (mul binary32 most most))
    high = unfold mul in tt

alike : (s : Bool) → unlike s s ≡ false
alike true = refl
alike false = refl

pub product : {s : Bool} {x y : Float} → Ranged s x → Ranged s y → T (positive (mul binary32 x y))
product {s} {x} {y} r q =
    let p : T (positive (magnitude (mul binary32 x y))) = subst (λ (z : Float). T (positive z)) (sym (magnitude_mul binary32 x y)) (sizes_product (magnitude x) (magnitude y) r.size q.size) in
    plain (mul binary32 x y) p (sgn_mul binary32 x y (above_real (mul binary32 x y) (positive_above (magnitude (mul binary32 x y)) p)) ∙ (λ i. unlike (r.sign i) (q.sign i)) ∙ alike s)

-- ---- four values that alternate: a has the sign s
pub record Square (s : Bool) (a b c d : Float) : Type 0 where
  pub at_a : Ranged s a
  pub at_b : Ranged (not s) b
  pub at_c : Ranged s c
  pub at_d : Ranged (not s) d

pub square : (a b c d : Float) → T (alternate a b c d) → (s : Bool) × Square s a b c d
unfolding alternate up_and_down
square a b c d t =
    elim (either (up_and_down a b c d) (up_and_down b a d c) t) [
      | inl u ↦ let h = four (in_range a) (in_range (neg b)) (in_range c) (in_range (neg d)) u in (false, record { at_a = up a h.0; at_b = down b h.1; at_c = up c h.2; at_d = down d h.3 })
      | inr u ↦ let h = four (in_range b) (in_range (neg a)) (in_range d) (in_range (neg c)) u in (true, record { at_a = down a h.1; at_b = up b h.0; at_c = down c h.3; at_d = up d h.2 })
    ]

pub has_size : {s : Bool} {x : Float} → Ranged s x → T (positive (magnitude x))
has_size {s} {x} r = in_range_positive (magnitude x) r.size

-- the same four values from the other side
pub turned : {s : Bool} {a b c d : Float} → Square s a b c d → Square (not s) d c b a
turned {s} {a} {b} {c} {d} q = record {
  at_a = q.at_d;
  at_b = subst (λ (z : Bool). Ranged z c) (sym (not-not s)) q.at_c;
  at_c = q.at_b;
  at_d = subst (λ (z : Bool). Ranged z a) (sym (not-not s)) q.at_a;
}

-- ---- the Bool of the values
abbrev pub val : Float → Float → Float → Float → Float
val a b c d = sub binary32 (mul binary32 a c) (mul binary32 b d)

abbrev tied : Float → Bool
tied v = lt (magnitude v) epsilon

pub kept : Float → Float → Float → Float → Bool
kept a b c d = cond (tied (val a b c d)) true (not (unlike (sgn a) (sgn (val a b c d))))

-- at 2 ^ -23 and above there is no tie
pub kept_untied : (a b c d : Float) → T (le epsilon (magnitude (val a b c d))) → kept a b c d ≡ not (unlike (sgn a) (sgn (val a b c d)))
unfolding kept
kept_untied a b c d t = ap (λ (x : Bool). cond x true (not (unlike (sgn a) (sgn (val a b c d))))) (no_less (tied (val a b c d)) λ u. lt_irrefl epsilon (lt_of_le_of_lt epsilon (magnitude (val a b c d)) epsilon t u))
  where
    no_less : (x : Bool) → (T x → ⊥) → x ≡ false
    no_less true h = absurd (h tt)
    no_less false h = refl

-- a face number as a float: its sign, that it is 1 at least, and that it is finite
pub record Number (x : Float) (s : Bool) : Type 0 where
  pub sign : sgn x ≡ s
  pub one_up : T (le one (magnitude x))
  pub whole : T (finite x)

has_value : (x : Float) (s : Bool) (a c : ℕ) → HasValue x s a c → T (finite x)
has_value nan s a c h = absurd h
has_value (inf t) s a c h = absurd h
has_value (fin t m e) s a c h = tt

rounded : (s : Bool) (m : ℕ) → T (leb 1 m && leb m 6) → Number (round binary32 s m 1) s
rounded s m t =
    let l = leb→le 1 m (and_l (leb 1 m) (leb m 6) t) in
    let h = leb→le m 6 (and_r (leb 1 m) (leb m 6) t) in
    let r = round_told binary32 s m 1 in
    record {
      sign = r.1;
      one_up = subst (λ (x : Float). T (le one x)) (sym r.0) (unfold round in round_mono binary32 1 1 m 1 (lit< tt) (lit< tt) (subst (λ (x : ℕ). 1 ≤ x) (sym (mul-one m)) l));
      whole = has_value (round binary32 s m 1) s m 1 (round_whole binary32 s m (le_trans h (lit≤ tt)));
    }

number : (n : ℤ) → T (is_face n) → Number (of_int binary32 n) (not (is_positive n))
unfolding of_int
number (pos m) t = subst (Number (round binary32 false m 1)) (ap not (sym (lt-ltb 0 m (leb→le 1 m (and_l (leb 1 m) (leb m 6) t))))) (rounded false m t)
number (negsuc m) t = rounded true (suc m) t

-- the rule sees only the values
pub rule_same : (n : ℤ) → T (is_face n) → (a b c d a' b' c' d' : Float) → Same a a' → Same b b' → Same c c' → Same d d' → rule f32 n a b c d ≡ rule f32 n a' b' c' d'
unfolding rule
rule_same n t a b c d a' b' c' d' p q r s =
    let N = of_int binary32 n in
    let v : sub binary32 (mul binary32 a c) (mul binary32 b d) ≡ sub binary32 (mul binary32 a' c') (mul binary32 b' d') = λ i. sub binary32 (mul_same binary32 a a' c c' p r i) (mul_same binary32 b b' d d' q s i) in
    λ i. cond (lt (magnitude (v i)) epsilon) (is_positive n) (le (fin false 0 (pos 0)) (mul binary32 (mul_same binary32 N N a a' (same_refl N (number n t).whole) p i) (v i)))

turn : (p s t : Bool) → not (unlike (unlike (not p) s) t) ≡ beq p (not (unlike s t))
turn true true true = refl
turn true true false = refl
turn true false true = refl
turn true false false = refl
turn false true true = refl
turn false true false = refl
turn false false true = refl
turn false false false = refl

by_true : (p : Bool) → p ≡ beq p true
by_true true = refl
by_true false = refl

module _ (n : ℤ) (t : T (is_face n)) (a b c d : Float) {s : Bool} (q : Square s a b c d) where
  -- (face × a) × val keeps clear of zero where val does
  clear : T (le epsilon (magnitude (val a b c d))) → le (fin false 0 (pos 0)) (mul binary32 (mul binary32 (of_int binary32 n) a) (val a b c d)) ≡ beq (is_positive n) (not (unlike (sgn a) (sgn (val a b c d))))
  clear h =
      let N = of_int binary32 n in
      let v = val a b c d in
      let first : T (le (mul binary32 one least) (mul binary32 (magnitude N) (magnitude a))) = le_mul one least (magnitude N) (magnitude a) tt least_positive first_ends (number n t).one_up (low_end (magnitude a) q.at_a.size) in
      let na : T (le (mul binary32 one least) (magnitude (mul binary32 N a))) = subst (λ (x : Float). T (le (mul binary32 one least) x)) (sym (magnitude_mul binary32 N a)) first in
      let both : T (le (mul binary32 (mul binary32 one least) epsilon) (mul binary32 (magnitude (mul binary32 N a)) (magnitude v))) = le_mul (mul binary32 one least) epsilon (magnitude (mul binary32 N a)) (magnitude v) first_ends tt both_ends na h in
      let above-na = above_of_le (mul binary32 one least) (magnitude (mul binary32 N a)) first_ends na in
      let above-all = subst (λ (x : Float). T (above x)) (sym (magnitude_mul binary32 (mul binary32 N a) v)) (above_of_le (mul binary32 (mul binary32 one least) epsilon) (mul binary32 (magnitude (mul binary32 N a)) (magnitude v)) both_ends both) in
      sign_test (mul binary32 (mul binary32 N a) v) above-all
      ∙ ap not (sgn_mul binary32 (mul binary32 N a) v (above_real (mul binary32 (mul binary32 N a) v) above-all))
      ∙ ap (λ (x : Bool). not (unlike x (sgn v))) (sgn_mul binary32 N a (above_real (mul binary32 N a) above-na) ∙ ap (λ (x : Bool). unlike x (sgn a)) (number n t).sign)
      ∙ turn (is_positive n) (sgn a) (sgn v)
    where
      first_ends : T (positive (mul binary32 one least))
      first_ends = unfold of_bits mul in tt

      both_ends : T (positive (mul binary32 (mul binary32 one least) epsilon))
      both_ends = unfold of_bits mul in tt

  pub decided : rule f32 n a b c d ≡ beq (is_positive n) (kept a b c d)
  unfolding rule kept
  decided = go (tied (val a b c d)) refl
    where
      go : (x : Bool) → tied (val a b c d) ≡ x → cond x (is_positive n) (le (fin false 0 (pos 0)) (mul binary32 (mul binary32 (of_int binary32 n) a) (val a b c d)))
          ≡ beq (is_positive n) (cond x true (not (unlike (sgn a) (sgn (val a b c d)))))
      go true e = by_true (is_positive n)
      go false e = clear (not_less epsilon (val a b c d) tt (sub_swapped (mul binary32 a c) (mul binary32 b d) (product q.at_a q.at_c) (product q.at_b q.at_d)).real e)

-- ---- from the other side
unlike_move : (s t : Bool) → unlike s (not t) ≡ unlike (not s) t
unlike_move true true = refl
unlike_move true false = refl
unlike_move false true = refl
unlike_move false false = refl

zero_tied : tied (fin false 0 (pos 0)) ≡ true
zero_tied = unfold lt in refl

module _ (a b c d : Float) {s : Bool} (q : Square s a b c d) where
  opposed : sgn d ≡ not (sgn a)
  opposed = q.at_d.sign ∙ ap not (sym q.at_a.sign)

  -- with w for the other side's difference
  by_swap : (v w : Float) → Swapped v w → (t : Bool) → tied v ≡ t → cond t true (not (unlike (sgn a) (sgn v))) ≡ cond t true (not (unlike (sgn d) (sgn w)))
  by_swap v w k true e = refl
  by_swap v w k false e =
      elim k.against [
        | inl g ↦ ap not (ap (unlike (sgn a)) g ∙ unlike_move (sgn a) (sgn w) ∙ ap (λ (x : Bool). unlike x (sgn w)) (sym opposed))
        | inr z ↦ absurd (true≢false (sym zero_tied ∙ ap (λ (x : Float). lt x epsilon) (sym z) ∙ e))
      ]

  pub kept_turned : kept a b c d ≡ kept d c b a
  unfolding kept
  kept_turned =
      let v = val a b c d in
      let w = sub binary32 (mul binary32 b d) (mul binary32 a c) in
      let k = sub_swapped (mul binary32 a c) (mul binary32 b d) (product q.at_a q.at_c) (product q.at_b q.at_d) in
      let there : val d c b a ≡ w = λ i. sub binary32 (mul_comm_float binary32 d b i) (mul_comm_float binary32 c a i) in
      by_swap v w k (tied v) refl
      ∙ ap (λ (t : Bool). cond t true (not (unlike (sgn d) (sgn w)))) (ap (λ (x : Float). lt x epsilon) k.alike)
      ∙ ap (λ (x : Float). cond (tied x) true (not (unlike (sgn d) (sgn x)))) (sym there)
