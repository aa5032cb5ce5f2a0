-- Every choice is in its ranges, and its plan hands on none but known faces and cases and makes one interior test at most. Plans are data: one test computed over all of them says so of where
-- each leads, and one induction that what a plan leads to is what is chosen, whatever the answers. Assumes nothing.
use mathlib.Core.Path.{◌≡◌, refl, subst, sym}
use mathlib.Core.Bool.{Bool, true, false, cond, ◌&&◌, ◌||◌}
use mathlib.Core.List.{List, [], ◌∷◌, map, foldr}
use Prim.Native.Nat.{ℕ, zero, suc, ◌≤◌, ◌<◌}
use native.Mathlib.Nat.{suc-ne-zero, le_trans, lt_of_not-le, not-suc-le-zero}
use native.Mathlib.Omega.{arith}
use lib.Dec.{T, leb, ltb, eqb, eqb→eq, leb→le, ltb→lt, le→leb, lit≤}
use lib.IntN.{ℤ, pos, negsuc}
use lib.ListN.{get_or, get_or-eq_default, length}
use lib.Ieee.Fits.{and_i, and_l, and_r}
use Rattle.cube.specs.declared.Cube.{Cube}
use Rattle.cube.specs.Corners.{all_finite}
use Rattle.cube.proofs.Table.{all_under, under}
use Rattle.notes.specs.declared.Notes.{Notes}
use Rattle.notes.specs.Notes.{no_notes, tests_of, added}
use Rattle.notes.proofs.Bounds.{AtMost, looks_of, at_most_added}
use Rattle.interior.specs.declared.Sight.{Sight}
use Rattle.interior.specs.Pick.{are_ambiguous_faces}
use Rattle.interior.proofs.Bounds.{inside_bound}
use Rattle.tilings.specs.Tilings.{configurations, tilings_of, is_one_of, columns_of, has_centre}
use Rattle.tilings.specs.Plan.{Plan, nothing, untiled, tile, ask, face, inside, inside13, ask_in_turn, Answers, Chosen, empty, no_tiling, tiling, Reached, reach, settled, tested, run}
use Rattle.tilings.specs.Answers.{answers_of}
use Rattle.two_faces.specs.Tables.{TEST_10, TEST_12}
use Rattle.two_faces.specs.Plans.{two_faces, plan10, plan12}
use Rattle.family_13.specs.Tables.{TEST_13, SUB_CONFIG_13}
use Rattle.family_13.specs.Plans.{parts13, last_from, tile13, part13, plan13}
use Rattle.families.specs.Tables.{TEST_3, TEST_4, TEST_6, TEST_7}
use Rattle.families.specs.Plans.{plan3, plan4, plan6, part7, plan7, plans, plan_of}
use Rattle.choice.specs.Choice.{is_case, is_configuration, nat_of, refusal_of, choice_of, Said, made, refused, readings_in, answer_of}
use Rattle.choice.specs.Inner.{hands_on}
use Rattle.choice.specs.Figures.{Figures, figure, figures, figures_of, figures_for, within}
use Rattle.choice.specs.Ranges.{holds_minus1, placed, in_ranges, said_in_ranges}

-- ---- what a plan leads to
-- with `used` counted at most, whatever the answers: what the plan leads to is in the ranges
unfoldable fits : ℕ → Notes → Plan → Bool
fits case used nothing = in_ranges case (reach empty used)
fits case used (untiled c sub) = in_ranges case (reach (no_tiling c sub) used)
fits case used (tile code row column) = in_ranges case (reach (tiling code row column (has_centre code)) used)
fits case used (ask (face n) p r) = fits case (tested used) p && fits case (tested used) r
fits case used (ask (inside ns s) p r) = fits case (added used (looks_of (length ns))) p && fits case (added used (looks_of (length ns))) r
fits case used (ask inside13 p r) = fits case (tested used) p && fits case (tested used) r

lower : (k n l : ℕ) → k ≤ n → T (leb n l) → T (leb k l)
lower k n l h t = le→leb k l (le_trans h (leb→le n l t))

fewer : (f : Figures) (used m : Notes) → AtMost m used → T (within f used) → T (within f m)
fewer f used m (h, (i, e)) t =
    let one = leb used.unsettled f.edges in
    let other = leb used.unmatched f.edges in
    let read : ℕ → Bool = λ n. is_one_of n (f.least ∷ f.most ∷ []) in
    let few = and_l (one && other) (read used.readings) t in
    and_i (leb m.unsettled f.edges && leb m.unmatched f.edges) (read m.readings)
    (and_i (leb m.unsettled f.edges) (leb m.unmatched f.edges)
    (lower m.unsettled used.unsettled f.edges h (and_l one other few))
    (lower m.unmatched used.unmatched f.edges i (and_r one other few)))
    (subst (λ (n : ℕ). T (read n)) (sym e) (and_r (one && other) (read used.readings) t))

reached_in : (case : ℕ) (used : Notes) (x : Chosen) (m : Notes) → AtMost m used → T (in_ranges case (reach x used)) → T (in_ranges case (reach x m))
unfolding in_ranges
reached_in case used x m h t =
    let f = figures_for case x in
    and_i (placed case x) (within f m) (and_l (placed case x) (within f used) t) (fewer f used m h (and_r (placed case x) (within f used) t))

-- what holds of both ways holds of the one that is gone
pub either : (P : Reached → Type 0) (b : Bool) (x y : Reached) → P x → P y → P (cond b x y)
either P true x y h l = h
either P false x y h l = l

abbrev InRanges : ℕ → Reached → Type 0
InRanges case r = T (in_ranges case r)

one_test : (m used : Notes) → AtMost m used → AtMost (tested m) (tested used)
one_test m used h = at_most_added m (tests_of 1) used (tests_of 1) h (lit≤ tt, (lit≤ tt, refl))

inside_in : (case : ℕ) (used n : Notes) (f g : Notes → Reached) (m : Notes) (l : Sight) → AtMost m used → AtMost l.notes n
    → ((k : Notes) → AtMost k (added used n) → InRanges case (f k))
    → ((k : Notes) → AtMost k (added used n) → InRanges case (g k))
    → InRanges case (settled l f g m)
unfolding settled
inside_in case used n f g m l h c p r =
    let k = added m l.notes in
    let few = at_most_added m l.notes used n h c in
    either (InRanges case) l.hit (f k) (g k) (p k few) (r k few)

module _ (case : ℕ) (w : Answers) (few : (ns : List ℕ) (s : ℤ) → AtMost (w.insides ns s).notes (looks_of (length ns))) where
  run_in : (used : Notes) (p : Plan) (m : Notes) → AtMost m used → T (fits case used p) → InRanges case (run w p m)
  unfolding fits run
  run_in used nothing m h t = reached_in case used empty m h t
  run_in used (untiled c sub) m h t = reached_in case used (no_tiling c sub) m h t
  run_in used (tile code row column) m h t = reached_in case used (tiling code row column (has_centre code)) m h t
  run_in used (ask (face n) p r) m h t =
      let k = tested used in
      either (InRanges case) (w.faces n) (run w p (tested m)) (run w r (tested m))
      (run_in k p (tested m) (one_test m used h) (and_l (fits case k p) (fits case k r) t))
      (run_in k r (tested m) (one_test m used h) (and_r (fits case k p) (fits case k r) t))
  run_in used (ask (inside ns s) p r) m h t =
      let more = added used (looks_of (length ns)) in
      inside_in case used (looks_of (length ns)) (run w p) (run w r) m (w.insides ns s) h (few ns s)
      (λ k i. run_in more p k i (and_l (fits case more p) (fits case more r) t))
      (λ k i. run_in more r k i (and_r (fits case more p) (fits case more r) t))
  run_in used (ask inside13 p r) m h t =
      let k = tested used in
      either (InRanges case) w.insides13 (run w p (tested m)) (run w r (tested m))
      (run_in k p (tested m) (one_test m used h) (and_l (fits case k p) (fits case k r) t))
      (run_in k r (tested m) (one_test m used h) (and_r (fits case k p) (fits case k r) t))

-- ---- how many interior tests it makes, whatever the answers: none, or one at most, for n ambiguous faces
unfoldable pub asks_none : Plan → Bool
asks_none nothing = true
asks_none (untiled c sub) = true
asks_none (tile code row column) = true
asks_none (ask (face n) p r) = asks_none p && asks_none r
asks_none (ask (inside ns s) p r) = false
asks_none (ask inside13 p r) = asks_none p && asks_none r

unfoldable pub asks_once : ℕ → Plan → Bool
asks_once n nothing = true
asks_once n (untiled c sub) = true
asks_once n (tile code row column) = true
asks_once n (ask (face k) p r) = asks_once n p && asks_once n r
asks_once n (ask (inside ns s) p r) = (are_ambiguous_faces ns && eqb (length ns) n) && (asks_none p && asks_none r)
asks_once n (ask inside13 p r) = asks_once n p && asks_once n r

-- ---- all plans
abbrev asks : ℕ → Plan → Bool
asks case p = hands_on case p && asks_once (figures_of case).edges p

abbrev fits_in : ℕ → Plan → Bool
fits_in case p = fits case no_notes p && asks case p

fits_at : ℕ → ℕ → Bool
fits_at case c = fits_in case (plan_of case c)

all_fit : T (all_under 15 (λ case. all_under (get_or configurations case 0) (fits_at case)))
unfolding fits_at fits hands_on asks_none asks_once in_ranges placed figures holds_minus1 tilings_of configurations columns_of has_centre plan_of plans plan3 plan4 plan6 part7 plan7 two_faces plan10 plan12 parts13 last_from tile13 part13 plan13 ask_in_turn TEST_3 TEST_4 TEST_6 TEST_7 TEST_10 TEST_12 TEST_13 SUB_CONFIG_13
all_fit = tt

-- past case 14 there are no configurations
of_a_case : (case c : ℕ) → c < get_or configurations case 0 → case < 15
unfolding configurations
of_a_case case c h = lt_of_not-le (λ (l : 15 ≤ case). not-suc-le-zero (subst (λ (n : ℕ). c < n) (get_or-eq_default configurations 0 l) h))

plan_fits : (case c : ℕ) → c < get_or configurations case 0 → T (fits_at case c)
plan_fits case c l = under (get_or configurations case 0) (fits_at case) (under 15 (λ k. all_under (get_or configurations k 0) (fits_at k)) all_fit case (of_a_case case c l)) c l

nothing_fits : (case : ℕ) → T (eqb case 0) → T (fits_at case 0)
unfolding fits_at plan_of plans fits hands_on asks_once in_ranges placed figures
nothing_fits case e = subst (λ (k : ℕ). T (fits_at k 0)) (sym (eqb→eq case 0 e)) tt

-- ---- past refusals 1, 2 and 3
-- the three tests of `refusal_of`
abbrev pub tests : Bool → Bool → Bool → ℕ
tests a b d = cond a (cond b (cond d 0 3) 2) 1

pub passed : (a b d : Bool) → tests a b d ≡ 0 → T a × T b
passed true true d e = (tt, tt)
passed true false d e = absurd (suc-ne-zero 1 e)
passed false b d e = absurd (suc-ne-zero 0 e)

fits_past : (x y : ℤ) (q : Cube) → refusal_of x y q ≡ 0 → T (fits_at (nat_of x) (nat_of y))
unfolding refusal_of
fits_past (negsuc k) y q e = absurd (suc-ne-zero 0 e)
fits_past (pos k) (pos c) q e = plan_fits k c (ltb→lt c (get_or configurations k 0) (passed (leb k 14) (ltb c (get_or configurations k 0)) (all_finite q) e).1)
fits_past (pos k) (negsuc c) q e = nothing_fits k (and_l (eqb k 0) (eqb c 0) (passed (leb k 14) (eqb k 0 && eqb c 0) (all_finite q) e).1)

module _ (x y : ℤ) (q : Cube) (e : refusal_of x y q ≡ 0) where
  abbrev plan : Plan
  plan = plan_of (nat_of x) (nat_of y)

  asked_so : T (asks (nat_of x) plan)
  unfolding fits_at
  asked_so = and_r (fits (nat_of x) no_notes plan) (asks (nat_of x) plan) (fits_past x y q e)

  pub hands_on_lem : T (hands_on (nat_of x) plan)
  hands_on_lem = and_l (hands_on (nat_of x) plan) (asks_once (figures_of (nat_of x)).edges plan) asked_so

  pub asks_once_lem : T (asks_once (figures_of (nat_of x)).edges plan)
  asks_once_lem = and_r (hands_on (nat_of x) plan) (asks_once (figures_of (nat_of x)).edges plan) asked_so

  pub choice_in : T (in_ranges (nat_of x) (choice_of x y q))
  unfolding fits_at choice_of
  choice_in = run_in (nat_of x) (answers_of q) (inside_bound q) no_notes plan no_notes (lit≤ tt, (lit≤ tt, refl)) (and_l (fits (nat_of x) no_notes plan) (asks (nat_of x) plan) (fits_past x y q e))

-- ---- or refused
said_in : (case : ℕ) (a b d : Bool) (r : Reached)
    → (tests a b d ≡ 0 → T (in_ranges case r))
    → T (said_in_ranges case (cond (eqb (tests a b d) 0) (made r) (refused (tests a b d))))
unfolding said_in_ranges
said_in case true true true r f = f refl
said_in case true true false r f = tt
said_in case true false d r f = tt
said_in case false b d r f = tt

pub ranges : (x y : ℤ) (q : Cube) → T (said_in_ranges (nat_of x) (answer_of x y q))
unfolding answer_of refusal_of
ranges x y q = said_in (nat_of x) (is_case x) (is_configuration (nat_of x) y) (all_finite q) (choice_of x y q) (choice_in x y q)

-- ---- bounds, whatever the case
module _ (p : Figures → Bool) (t : T (p (figure 0 0 0))) where
  all_of : (fs : List Figures) (k : ℕ) → T (foldr ◌&&◌ true (map p fs)) → T (p (get_or fs k (figure 0 0 0)))
  all_of [] k h = t
  all_of (f ∷ fs) zero h = and_l (p f) (foldr ◌&&◌ true (map p fs)) h
  all_of (f ∷ fs) (suc k) h = all_of fs k (and_r (p f) (foldr ◌&&◌ true (map p fs)) h)

abbrev few_readings : Figures → Bool
few_readings f = leb f.least 7 && leb f.most 7

abbrev is_small : Figures → Bool
is_small f = leb f.edges 3 && few_readings f

all_small : (case : ℕ) (x : Chosen) → T (is_small (figures_for case x))
unfolding figures
all_small case empty = tt
all_small case (no_tiling c sub) = tt
all_small case (tiling code row column centre) = all_of is_small tt figures case tt

either_of : (P : Type 0) (a b : Bool) → (T a → P) → (T b → P) → T (a || (b || false)) → P
either_of P true b f g t = f tt
either_of P false true f g t = g tt
either_of P false false f g t = absurd t

at_most_of : (k a b n : ℕ) → T (is_one_of k (a ∷ b ∷ [])) → T (leb a n && leb b n) → k ≤ n
at_most_of k a b n t h =
    either_of (k ≤ n) (eqb k a) (eqb k b)
    (λ e. subst (λ (j : ℕ). j ≤ n) (sym (eqb→eq k a e)) (leb→le a n (and_l (leb a n) (leb b n) h)))
    (λ e. subst (λ (j : ℕ). j ≤ n) (sym (eqb→eq k b e)) (leb→le b n (and_r (leb a n) (leb b n) h)))
    t

module _ (case : ℕ) (r : Reached) (h : T (in_ranges case r)) where
  abbrev f : Figures
  f = figures_for case r.choice

  abbrev m : Notes
  m = r.notes

  abbrev few : Bool
  few = leb m.unsettled f.edges && leb m.unmatched f.edges

  counted_within : T (within f m)
  unfolding in_ranges
  counted_within = and_r (placed case r.choice) (within f m) h

  small : T (is_small f)
  small = all_small case r.choice

  pub few_unsettled : m.unsettled ≤ 3
  few_unsettled =
      le_trans
      (leb→le m.unsettled f.edges (and_l (leb m.unsettled f.edges) (leb m.unmatched f.edges) (and_l few (is_one_of m.readings (f.least ∷ f.most ∷ [])) counted_within)))
      (leb→le f.edges 3 (and_l (leb f.edges 3) (few_readings f) small))

  pub few_readings_lem : m.readings ≤ 7
  few_readings_lem = at_most_of m.readings f.least f.most 7 (and_r few (is_one_of m.readings (f.least ∷ f.most ∷ [])) counted_within) (and_r (leb f.edges 3) (few_readings f) small)

-- of an answer, refused ones among them
pub few_in : (case : ℕ) (s : Said) → T (said_in_ranges case s) → readings_in s ≤ 7
unfolding said_in_ranges
few_in case (made r) h = few_readings_lem case r h
few_in case (refused n) h = lit≤ tt

-- ---- what empty and no tiling count
one_figure : (n : ℕ) (m : Notes) → T (within (figure 0 n n) m) → m ≡ tests_of n
one_figure n m h =
    let few = leb m.unsettled 0 && leb m.unmatched 0 in
    let read = is_one_of m.readings (n ∷ n ∷ []) in
    let bound = and_l few read h in
    let settled = leb→le m.unsettled 0 (and_l (leb m.unsettled 0) (leb m.unmatched 0) bound) in
    let matched = leb→le m.unmatched 0 (and_r (leb m.unsettled 0) (leb m.unmatched 0) bound) in
    let none : m.unsettled ≡ 0 = omega arith in
    let all : m.unmatched ≡ 0 = omega arith in
    let told : m.readings ≡ n = either_of (m.readings ≡ n) (eqb m.readings n) (eqb m.readings n) (eqb→eq m.readings n) (eqb→eq m.readings n) (and_r few read h) in
    λ j. record { unsettled = none j; unmatched = all j; readings = told j }

module _ (case : ℕ) (m : Notes) where
  pub empty_counts : T (in_ranges case (reach empty m)) → m ≡ no_notes
  unfolding in_ranges
  empty_counts h = one_figure 0 m (and_r (placed case empty) (within (figure 0 0 0) m) h)

  pub untiled_counts : (c sub : ℕ) → T (in_ranges case (reach (no_tiling c sub) m)) → m ≡ tests_of 6
  unfolding in_ranges
  untiled_counts c sub h = one_figure 6 m (and_r (placed case (no_tiling c sub)) (within (figure 0 6 6) m) h)
