-- The family of a case and a configuration, by the two taken apart, and by it what is refused and what is answered. `to_z w8 (of_z w8 z)` is how code reads z. Assumes nothing.
use mathlib.Core.Path.{◌≡◌, refl, sym, ap, ◌∙◌, subst}
use mathlib.Core.Bool.{Bool, true, false, cond, ◌&&◌}
use Prim.Native.Nat.{ℕ, zero, suc, ◌≤◌, ◌<◌}
use native.Mathlib.Omega.{arith}
use borrow.Author.Tests.{le-leb, lt-leb, lt-ltb, le-ltb}
use lib.IntN.{ℤ, pos, negsuc}
use lib.Dec.{T, leb, ltb, eqb, eqb→eq, ltb→lt}
use lib.ListN.{get_or, get_or-eq_default}
use Rattle.std.specs.Prelude.{Result, Ok, Err, IsErrAnd}
use lib.Ieee.Fits.{and_l}
use mir.Syntax.{w8}
use mir.Val.{SFits, to_z, of_z}
use mir.ValLaws.{to_z-of_z}
use Rattle.cube.specs.declared.Cube.{Cube}
use Rattle.cube.specs.Signs.{split_value}
use Rattle.cube.proofs.Signs.{taken}
use Rattle.cube.proofs.Table.{NoneFrom, past_all}
use Rattle.cube.specs.Corners.{all_finite}
use Rattle.cube.specs.declared.Refusal.{Refusal}
use Rattle.cube.specs.Refusals.{refusal_number}
use Rattle.notes.specs.Notes.{no_notes}
use Rattle.tilings.specs.declared.Counted.{Counted}
use Rattle.tilings.specs.Tilings.{configurations}
use Rattle.tilings.specs.Plan as Plan
use Rattle.tilings.specs.Plan.{empty, Reached, reach, run}
use Rattle.tilings.specs.Answers.{answers_of}
use Rattle.families.specs.Plans.{plans, plan_of}
use Rattle.choice.specs.Choice as Choice
use Rattle.choice.specs.Choice.{is_case, nat_of, refusal_of, choice_of, Said, made, answer_of, said}
use Rattle.choice.specs.declared.Family.{Family}
use Rattle.choice.specs.declared.Family.TheVariants.{Nothing, Known}
use Rattle.choice.specs.Kin.{Kin, nothing, known, refused, kin_of, kin}
use Rattle.choice.proofs.Ranges.{tests}

-- past case 14 there are no configurations, nor from 0 for case 0
pub no_more : (k : ℕ) → NoneFrom 1 14 k → 0 ≡ get_or configurations k 0
unfolding configurations
no_more zero h = refl
no_more (suc k) h = sym (get_or-eq_default configurations 0 (past_all 1 14 (suc k) (omega arith) h))

module _ (z : ℤ) (r : Result ℕ ℕ) (f : SFits w8 z) (e : split_value r ≡ to_z w8 (of_z w8 z)) where
  -- ---- z is the configuration
  module _ (case c : ℕ) (h : case < 15) where
    case_known : leb case 14 ≡ true
    case_known = le-leb case 14 (omega arith)

    -- n is how many the code has found the case to have
    pub one_of : (n : ℕ) → n ≡ get_or configurations case 0 → r ≡ Ok c → c < n → known case c ≡ kin_of (pos case) z
    unfolding kin_of
    one_of n i s l = rw (taken z r f e (Ok c) s, case_known, ← i, lt-ltb c n l)

    pub past : (n : ℕ) → n ≡ get_or configurations case 0 → r ≡ Ok c → n ≤ c → refused 2 ≡ kin_of (pos case) z
    unfolding kin_of
    past n i s l = rw (taken z r f e (Ok c) s, case_known, ← i, le-ltb c n l)

    pub of_0 : r ≡ Err c → eqb case 0 && eqb c 0 ≡ true → nothing ≡ kin_of (pos case) z
    unfolding kin_of
    of_0 s l = rw (taken z r f e (Err c) s, case_known, l)

    pub not_of_0 : r ≡ Err c → eqb case 0 && eqb c 0 ≡ false → refused 2 ≡ kin_of (pos case) z
    unfolding kin_of
    not_of_0 s l = rw (taken z r f e (Err c) s, case_known, l)

  -- ---- z is the case
  module _ (y : ℤ) (k : ℕ) where
    pub case_of : SFits w8 y → r ≡ Ok k → (x : Kin) → x ≡ kin_of (pos k) (to_z w8 (of_z w8 y)) → x ≡ kin_of z y
    case_of g s x i = rw (taken z r f e (Ok k) s) (i ∙ ap (kin_of (pos k)) (to_z-of_z w8 y g))

    pub too_high : r ≡ Ok k → 15 ≤ k → refused 1 ≡ kin_of z y
    unfolding kin_of
    too_high s l = rw (taken z r f e (Ok k) s, lt-leb k 14 l)

    pub too_low : r ≡ Err k → refused 1 ≡ kin_of z y
    unfolding kin_of
    too_low s = rw (taken z r f e (Err k) s)

-- ---- a known configuration is one of its case's
abbrev its : Kin → Bool
its nothing = true
its (known k c) = ltb c (get_or configurations k 0)
its (refused n) = true

its_or_refused : (a b : Bool) (m : Kin) → (T b → T (its m)) → T (its (cond a (cond b m (refused 2)) (refused 1)))
its_or_refused true true m f = f tt
its_or_refused true false m f = tt
its_or_refused false b m f = tt

its_own : (x y : ℤ) → T (its (kin_of x y))
unfolding kin_of
its_own x (pos c) = its_or_refused (is_case x) (ltb c (get_or configurations (nat_of x) 0)) (known (nat_of x) c) (λ h. h)
its_own x (negsuc c) = its_or_refused (is_case x) (eqb (nat_of x) 0 && eqb c 0) nothing (λ h. tt)

-- ---- what is refused for a family
-- by the corners alone
abbrev if_not : Bool → ℕ
if_not b = cond b 0 3

abbrev refusal_by : Bool → Kin → ℕ
refusal_by b nothing = if_not b
refusal_by b (known k c) = if_not b
refusal_by b (refused n) = n

tested : (a b d : Bool) (m : Kin) → refusal_by d m ≡ if_not d → tests a b d ≡ refusal_by d (cond a (cond b m (refused 2)) (refused 1))
tested true true d m h = sym h
tested true false d m h = refl
tested false b d m h = refl

refusal_by_lem : (x y : ℤ) (q : Cube) → refusal_of x y q ≡ refusal_by (all_finite q) (kin_of x y)
unfolding refusal_of kin_of
refusal_by_lem x (pos c) q = tested (is_case x) (ltb c (get_or configurations (nat_of x) 0)) (all_finite q) (known (nat_of x) c) refl
refusal_by_lem x (negsuc c) q = tested (is_case x) (eqb (nat_of x) 0 && eqb c 0) (all_finite q) nothing refl

-- ---- what is answered
abbrev if_finite : Bool → Reached → Said
if_finite b r = cond b (made r) (Choice.refused 3)

abbrev answer_by : Cube → Kin → Said
answer_by q nothing = if_finite (all_finite q) (reach empty no_notes)
answer_by q (known k c) = if_finite (all_finite q) (run (answers_of q) (plan_of k c) no_notes)
answer_by q (refused n) = Choice.refused n

answered : (q : Cube) (a b d : Bool) (m : Kin) (r : Reached) → (T b → if_finite d r ≡ answer_by q m)
    → cond (eqb (tests a b d) 0) (made r) (Choice.refused (tests a b d)) ≡ answer_by q (cond a (cond b m (refused 2)) (refused 1))
answered q true true true m r f = f tt
answered q true true false m r f = f tt
answered q true false d m r f = refl
answered q false b d m r f = refl

pub no_plan : (k : ℕ) → T (eqb k 0) → plan_of k 0 ≡ Plan.nothing
unfolding plan_of plans
no_plan k h = rw (eqb→eq k 0 h)

answer_by_lem : (x y : ℤ) (q : Cube) → answer_of x y q ≡ answer_by q (kin_of x y)
unfolding answer_of refusal_of choice_of kin_of run
answer_by_lem x (pos c) q = answered q (is_case x) (ltb c (get_or configurations (nat_of x) 0)) (all_finite q) (known (nat_of x) c) _ (λ h. refl)
answer_by_lem x (negsuc c) q =
    answered q (is_case x) (eqb (nat_of x) 0 && eqb c 0) (all_finite q) nothing _
    (λ h. rw (no_plan (nat_of x) (and_l (eqb (nat_of x) 0) (eqb c 0) h)))

module _ (x y : ℤ) (f : Result Family Refusal) (fx : SFits w8 x) (fy : SFits w8 y) (e : kin f ≡ kin_of (to_z w8 (of_z w8 x)) (to_z w8 (of_z w8 y))) where
  of : (v : Result Family Refusal) → f ≡ v → kin_of x y ≡ kin v
  of v s = rw (← to_z-of_z w8 x fx, ← to_z-of_z w8 y fy) (sym e ∙ ap kin s)

  pub one_of_its : (g : Family) → f ≡ Ok g → (k c : ℕ) → g ≡ Known k c → c < get_or configurations k 0
  one_of_its g s k c t = ltb→lt c (get_or configurations k 0) (subst (λ (m : Kin). T (its m)) (of (Ok (Known k c)) (s ∙ ap Ok t)) (its_own x y))

  module _ (q : Cube) where
    by_family : (v : Result Family Refusal) → f ≡ v → answer_by q (kin v) ≡ answer_of x y q
    by_family v s = sym (answer_by_lem x y q ∙ ap (answer_by q) (of v s))

    -- r is what goes out of the function with what it was refused by
    pub by_refusal : (why : Refusal) → f ≡ Err why → (r : Result Counted Refusal) → IsErrAnd r (λ z. z ≡ why) → said r ≡ answer_of x y q
    by_refusal why s (Ok r) h = absurd h
    by_refusal why s (Err z) h = ap (λ z. Choice.refused (refusal_number z)) h ∙ by_family (Err why) s

    -- b is what the code has found of the corners
    module _ (b : Bool) (finite : b ≡ all_finite q) where
      found : (a : Bool) (r : Reached) → b ≡ a → if_finite a r ≡ if_finite (all_finite q) r
      found a r h = ap (λ (d : Bool). if_finite d r) (sym h ∙ finite)

      pub by_corners : (g : Family) → f ≡ Ok g → b ≡ false → Choice.refused 3 ≡ answer_of x y q
      by_corners Nothing s h = found false (reach empty no_notes) h ∙ by_family (Ok Nothing) s
      by_corners (Known k c) s h = found false (run (answers_of q) (plan_of k c) no_notes) h ∙ by_family (Ok (Known k c)) s

      module _ (g : Family) (s : f ≡ Ok g) (h : b ≡ true) (r : Reached) where
        pub by_nothing : g ≡ Nothing → r ≡ reach empty no_notes → made r ≡ answer_of x y q
        by_nothing t i = ap made i ∙ found true (reach empty no_notes) h ∙ by_family (Ok Nothing) (s ∙ ap Ok t)

        pub by_plan_lem : (k c : ℕ) → g ≡ Known k c → r ≡ run (answers_of q) (plan_of k c) no_notes → made r ≡ answer_of x y q
        by_plan_lem k c t i = ap made i ∙ found true (run (answers_of q) (plan_of k c) no_notes) h ∙ by_family (Ok (Known k c)) (s ∙ ap Ok t)

    -- ---- and by its number, if it is refused
    told : (v : Result Family Refusal) → f ≡ v → refusal_by (all_finite q) (kin v) ≡ refusal_of x y q
    told v s = sym (refusal_by_lem x y q ∙ ap (refusal_by (all_finite q)) (of v s))

    pub number_told : (why : Refusal) → f ≡ Err why → refusal_number why ≡ refusal_of x y q
    number_told why s = told (Err why) s

    pub corners_told : (b : Bool) → b ≡ all_finite q → (n : ℕ) → n ≡ cond b 0 3 → (g : Family) → f ≡ Ok g → n ≡ refusal_of x y q
    corners_told b finite n i Nothing s = i ∙ ap if_not finite ∙ told (Ok Nothing) s
    corners_told b finite n i (Known k c) s = i ∙ ap if_not finite ∙ told (Ok (Known k c)) s
