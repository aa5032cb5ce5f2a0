-- Of a choice's picks none is without a match, or all are: a plan makes one interior test at most, and that has none or all. Assumes nothing.
use mathlib.Core.Path.{◌≡◌, refl, sym, subst, ◌∙◌}
use mathlib.Core.Bool.{Bool, true, false, cond, ◌&&◌, ◌||◌}
use mathlib.Core.List.{List, [], ◌∷◌}
use Prim.Native.Nat.{ℕ}
use native.Mathlib.Nat.{add-zero}
use native.Mathlib.Omega.{arith}
use lib.Dec.{T, eqb, eqb→eq, eqb_refl}
use lib.IntN.{ℤ}
use lib.ListN.{length}
use lib.Ieee.Fits.{and_l, and_r}
use Rattle.binary32.specs.Numbers.{f32}
use Rattle.cube.specs.declared.Cube.{Cube}
use Rattle.cube.specs.Corners.{corner_of}
use Rattle.notes.specs.declared.Notes.{Notes}
use Rattle.notes.specs.Notes.{no_notes, added}
use Rattle.interior.specs.Pick.{are_ambiguous_faces, any_pair}
use Rattle.interior.proofs.Unmatched.{unmatched_all}
use Rattle.tilings.specs.Tilings.{is_one_of}
use Rattle.tilings.specs.Plan.{Plan, nothing, untiled, tile, ask, face, inside, inside13, Answers, Reached, settled, tested, run}
use Rattle.tilings.specs.Answers.{answers_of}
use Rattle.families.specs.Plans.{plan_of}
use Rattle.choice.specs.Choice.{nat_of, refusal_of, choice_of}
use Rattle.choice.specs.Figures.{figures_of}
use Rattle.choice.specs.Unmatched.{NoneOrAll}
use Rattle.choice.proofs.Ranges.{either, asks_none, asks_once, asks_once_lem}

abbrev none_or_all : ℕ → ℕ → Type 0
none_or_all n k = T (is_one_of k (0 ∷ n ∷ []))

none : (n k : ℕ) → k ≡ 0 → none_or_all n k
none n k e = rw e tt

-- a test has nothing unmatched
by_test : (m : Notes) → (tested m).unmatched ≡ m.unmatched
by_test m = add-zero m.unmatched

module _ (w : Answers) where
  -- without an interior test nothing more is unmatched
  none_more : (p : Plan) (m : Notes) → T (asks_none p) → (run w p m).notes.unmatched ≡ m.unmatched
  unfolding run asks_none
  none_more nothing m t = refl
  none_more (untiled c sub) m t = refl
  none_more (tile code row column) m t = refl
  none_more (ask (face n) p r) m t =
      either (λ x. x.notes.unmatched ≡ m.unmatched) (w.faces n) (run w p (tested m)) (run w r (tested m))
      (none_more p (tested m) (and_l (asks_none p) (asks_none r) t) ∙ by_test m)
      (none_more r (tested m) (and_r (asks_none p) (asks_none r) t) ∙ by_test m)
  none_more (ask (inside ns s) p r) m t = absurd t
  none_more (ask inside13 p r) m t =
      either (λ x. x.notes.unmatched ≡ m.unmatched) w.insides13 (run w p (tested m)) (run w r (tested m))
      (none_more p (tested m) (and_l (asks_none p) (asks_none r) t) ∙ by_test m)
      (none_more r (tested m) (and_r (asks_none p) (asks_none r) t) ∙ by_test m)

  module _ (n : ℕ) (alike : (ns : List ℕ) (s : ℤ) → T (are_ambiguous_faces ns) → none_or_all (length ns) (w.insides ns s).notes.unmatched) where
    abbrev Alike : Reached → Type 0
    Alike x = none_or_all n x.notes.unmatched

    -- by one, its own
    of_test : (ns : List ℕ) (s : ℤ) (p r : Plan) (m : Notes) → m.unmatched ≡ 0 → T ((are_ambiguous_faces ns && eqb (length ns) n) && (asks_none p && asks_none r))
        → Alike (run w (ask (inside ns s) p r) m)
    unfolding run settled
    of_test ns s p r m e t =
        let first = and_l (are_ambiguous_faces ns && eqb (length ns) n) (asks_none p && asks_none r) t in
        let rest = and_r (are_ambiguous_faces ns && eqb (length ns) n) (asks_none p && asks_none r) t in
        let x = w.insides ns s in
        let k = added m x.notes in
        let h = subst (λ (j : ℕ). none_or_all j x.notes.unmatched) (eqb→eq (length ns) n (and_r (are_ambiguous_faces ns) (eqb (length ns) n) first)) (alike ns s (and_l (are_ambiguous_faces ns) (eqb (length ns) n) first)) in
        let i : x.notes.unmatched ≡ k.unmatched = omega (arith, e) in
        let l = subst (none_or_all n) i h in
        either Alike x.hit (run w p k) (run w r k)
        (subst (none_or_all n) (sym (none_more p k (and_l (asks_none p) (asks_none r) rest))) l)
        (subst (none_or_all n) (sym (none_more r k (and_r (asks_none p) (asks_none r) rest))) l)

    none_or_all_by : (p : Plan) (m : Notes) → m.unmatched ≡ 0 → T (asks_once n p) → Alike (run w p m)
    unfolding run asks_once
    none_or_all_by nothing m e t = none n m.unmatched e
    none_or_all_by (untiled c sub) m e t = none n m.unmatched e
    none_or_all_by (tile code row column) m e t = none n m.unmatched e
    none_or_all_by (ask (face k) p r) m e t =
        either Alike (w.faces k) (run w p (tested m)) (run w r (tested m))
        (none_or_all_by p (tested m) (by_test m ∙ e) (and_l (asks_once n p) (asks_once n r) t))
        (none_or_all_by r (tested m) (by_test m ∙ e) (and_r (asks_once n p) (asks_once n r) t))
    none_or_all_by (ask (inside ns s) p r) m e t = of_test ns s p r m e t
    none_or_all_by (ask inside13 p r) m e t =
        either Alike w.insides13 (run w p (tested m)) (run w r (tested m))
        (none_or_all_by p (tested m) (by_test m ∙ e) (and_l (asks_once n p) (asks_once n r) t))
        (none_or_all_by r (tested m) (by_test m ∙ e) (and_r (asks_once n p) (asks_once n r) t))

-- ---- for the answers of a cube
second : (a b : Bool) → T b → T (a || (b || false))
second true b h = tt
second false true h = tt
second false false h = absurd h

one_of_both : (b : Bool) (n : ℕ) → none_or_all n (cond b 0 n)
one_of_both true n = tt
one_of_both false n = second (eqb n 0) (eqb n n) (eqb_refl n)

alike_in : (q : Cube) (ns : List ℕ) (s : ℤ) → T (are_ambiguous_faces ns) → none_or_all (length ns) ((answers_of q).insides ns s).notes.unmatched
alike_in q ns s t = subst (none_or_all (length ns)) (sym (unmatched_all q ns s t)) (one_of_both (any_pair f32 (corner_of q) s) (length ns))

chosen_so : (x y : ℤ) (q : Cube) → refusal_of x y q ≡ 0 → none_or_all (figures_of (nat_of x)).edges (choice_of x y q).notes.unmatched
unfolding choice_of
chosen_so x y q e = none_or_all_by (answers_of q) (figures_of (nat_of x)).edges (alike_in q) (plan_of (nat_of x) (nat_of y)) no_notes refl (asks_once_lem x y q e)

pub none_or_all_lem : NoneOrAll
none_or_all_lem = record { tests = unmatched_all; choices = chosen_so }
