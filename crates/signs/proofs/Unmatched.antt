-- No pick of the front's choice is without a match where no corner is zero: on each path of the plan of a set's row, the interior test that is made has a diagonal with both
-- corners in the set where s is 7, and both out of it where s is -7. The corners' values are those of binary32, as a cube of the code has them: a smaller one, times 7,
-- would round to zero. Assumes nothing.
use mathlib.Core.Path.{◌≡◌, refl, sym, subst, ◌∙◌, ap}
use mathlib.Core.Bool.{Bool, true, false, not, cond, ◌&&◌, ◌||◌}
use mathlib.Core.List.{List, [], ◌∷◌, map, foldr}
use Prim.Native.Nat.{ℕ, zero, suc, ◌^◌, ◌<◌}
use native.Mathlib.Nat.{add-zero, not-suc-le-zero, le_of_suc-le-suc}
use native.Mathlib.Omega.{arith}
use borrow.Author.Tests.{lt-ltb}
use lib.Dec.{T, eqb, eqb→eq, lit<}
use lib.IntN.{ℤ, pos, negsuc}
use lib.ListN.{get_or, length}
use lib.Ieee.{Float, nan, binary32, lt, mul, eq, of_int, fits}
use lib.Ieee.Fits.{and_l, and_r}
use lib.Ieee.Scale.{finite}
use Rattle.binary32.specs.Numbers.{f32, plus_zero}
use Rattle.cube.specs.declared.Cube.{Cube}
use Rattle.cube.specs.Bits.{number_of}
use Rattle.cube.specs.Corners.{corners, value_at, corner_of, all_finite}
use Rattle.cube.proofs.Bounds.{number_below}
use Rattle.notes.specs.declared.Notes.{Notes}
use Rattle.notes.specs.Notes.{no_notes, added}
use Rattle.interior.specs.Pick.{Diagonal, diagonals56, are_ambiguous_faces, any_match, any_pair}
use Rattle.interior.specs.Interior.{inside_of}
use Rattle.interior.proofs.Unmatched.{unmatched_all}
use Rattle.tilings.specs.Plan.{Plan, nothing, untiled, tile, ask, face, inside, inside13, ask_in_turn, Answers, Reached, settled, tested, run}
use Rattle.tilings.specs.Answers.{answers_of}
use Rattle.two_faces.specs.Tables.{TEST_10, TEST_12}
use Rattle.two_faces.specs.Plans.{two_faces, plan10, plan12}
use Rattle.family_13.specs.Tables.{TEST_13, SUB_CONFIG_13}
use Rattle.family_13.specs.Plans.{parts13, last_from, tile13, part13, plan13}
use Rattle.families.specs.Tables.{TEST_3, TEST_4, TEST_6, TEST_7}
use Rattle.families.specs.Plans.{plan3, plan4, plan6, part7, plan7, plans, plan_of}
use Rattle.choice.specs.Choice.{choice_of, made}
use Rattle.choice.proofs.Ranges.{either}
use Rattle.signs.specs.declared.Family.{Family}
use Rattle.signs.specs.Sets.{eight, set_by, set_of}
use Rattle.signs.specs.Rule.{family_of}
use Rattle.signs.specs.Table.{families, family_at}
use Rattle.signs.specs.Front.{choice_for, no_zeros, NoneUnmatched}
use Rattle.signs.specs.Asked.{plan_by}
use Rattle.signs.proofs.Ruled.{by_rule}
use Rattle.signs.proofs.Signed.{by_7, by_minus_7}

-- ---- a set as answers: whether corner 0, 1, 2 .. belongs
abbrev belongs : List Bool → ℕ → Bool
belongs bs k = get_or bs k false

-- a diagonal with both corners in the set, and one with both out of it
abbrev both_in : List Bool → Diagonal → Bool
both_in bs d = belongs bs d.one && belongs bs d.other

abbrev both_out : List Bool → Diagonal → Bool
both_out bs d = not (belongs bs d.one) && not (belongs bs d.other)

-- s is 7 and some diagonal is in the set, or s is -7 and some diagonal is out of it
unfoldable has_diagonal : List Bool → ℤ → Bool
has_diagonal bs (pos n) = eqb n 7 && any_match (both_in bs) diagonals56
has_diagonal bs (negsuc n) = eqb n 6 && any_match (both_out bs) diagonals56

-- so at each interior test of a plan, on all its paths
unfoldable always_has : List Bool → Plan → Bool
always_has bs nothing = true
always_has bs (untiled c sub) = true
always_has bs (tile code row column) = true
always_has bs (ask (face n) p r) = always_has bs p && always_has bs r
always_has bs (ask (inside ns s) p r) = (are_ambiguous_faces ns && has_diagonal bs s) && (always_has bs p && always_has bs r)
always_has bs (ask inside13 p r) = always_has bs p && always_has bs r

-- ---- a test of all lists of n answers
abbrev every : ℕ → (List Bool → Bool) → Bool
every zero p = p []
every (suc n) p = every n (λ bs. p (true ∷ bs)) && every n (λ bs. p (false ∷ bs))

at_each : (n : ℕ) (p : List Bool → Bool) → T (every n p) → (bs : List Bool) → length bs ≡ n → T (p bs)
at_each zero p t [] e = t
at_each zero p t (b ∷ bs) e = absurd (omega (arith, e))
at_each (suc n) p t [] e = absurd (omega (arith, e))
at_each (suc n) p t (true ∷ bs) e = at_each n (λ cs. p (true ∷ cs)) (and_l (every n (λ cs. p (true ∷ cs))) (every n (λ cs. p (false ∷ cs))) t) bs (omega (arith, e))
at_each (suc n) p t (false ∷ bs) e = at_each n (λ cs. p (false ∷ cs)) (and_r (every n (λ cs. p (true ∷ cs))) (every n (λ cs. p (false ∷ cs))) t) bs (omega (arith, e))

-- ---- all sets, with the table's families: the rule is slow to compute with
in_table : List Bool → Bool
in_table bs = always_has bs (plan_by (family_at (number_of bs)))

all_in_table : T (every 8 in_table)
unfolding in_table number_of always_has has_diagonal any_match families family_at plan_of plans plan3 plan4 plan6 part7 plan7 two_faces plan10 plan12 parts13 last_from tile13 part13 plan13 ask_in_turn TEST_3 TEST_4 TEST_6 TEST_7 TEST_10 TEST_12 TEST_13 SUB_CONFIG_13
all_in_table = tt

by_family : (bs : List Bool) → length bs ≡ 8 → T (always_has bs (plan_by (family_of (number_of bs))))
unfolding in_table
by_family bs e =
    let small : number_of bs < 256 = subst (λ (n : ℕ). number_of bs < 2 ^ n) e (number_below bs) in
    subst (λ (f : Family). T (always_has bs (plan_by f))) (by_rule (number_of bs) small) (at_each 8 in_table all_in_table bs e)

-- ---- where a plan is followed
by_test : (m : Notes) → m.unmatched ≡ 0 → (tested m).unmatched ≡ 0
by_test m e = add-zero m.unmatched ∙ e

module _ (w : Answers) (bs : List Bool) (matched : (ns : List ℕ) (s : ℤ) → T (are_ambiguous_faces ns) → T (has_diagonal bs s) → (w.insides ns s).notes.unmatched ≡ 0) where
  abbrev AllMatched : Reached → Type 0
  AllMatched x = x.notes.unmatched ≡ 0

  none_in : (p : Plan) (m : Notes) → m.unmatched ≡ 0 → T (always_has bs p) → AllMatched (run w p m)
  unfolding run settled always_has
  none_in nothing m e t = e
  none_in (untiled c sub) m e t = e
  none_in (tile code row column) m e t = e
  none_in (ask (face n) p r) m e t =
      either AllMatched (w.faces n) (run w p (tested m)) (run w r (tested m))
      (none_in p (tested m) (by_test m e) (and_l (always_has bs p) (always_has bs r) t))
      (none_in r (tested m) (by_test m e) (and_r (always_has bs p) (always_has bs r) t))
  none_in (ask (inside ns s) p r) m e t =
      let here = and_l (are_ambiguous_faces ns && has_diagonal bs s) (always_has bs p && always_has bs r) t in
      let rest = and_r (are_ambiguous_faces ns && has_diagonal bs s) (always_has bs p && always_has bs r) t in
      let x = w.insides ns s in
      let k = added m x.notes in
      let i : x.notes.unmatched ≡ 0 = matched ns s (and_l (are_ambiguous_faces ns) (has_diagonal bs s) here) (and_r (are_ambiguous_faces ns) (has_diagonal bs s) here) in
      let l : k.unmatched ≡ 0 = omega (arith, e, i) in
      either AllMatched x.hit (run w p k) (run w r k)
      (none_in p k l (and_l (always_has bs p) (always_has bs r) rest))
      (none_in r k l (and_r (always_has bs p) (always_has bs r) rest))
  none_in (ask inside13 p r) m e t =
      either AllMatched w.insides13 (run w p (tested m)) (run w r (tested m))
      (none_in p (tested m) (by_test m e) (and_l (always_has bs p) (always_has bs r) t))
      (none_in r (tested m) (by_test m e) (and_r (always_has bs p) (always_has bs r) t))

-- ---- a cube's corners: what holds of all holds of each
at_all : (p : Float → Bool) (xs : List Float) → T (foldr ◌&&◌ true (map p xs)) → (k : ℕ) → k < length xs → T (p (get_or xs k nan))
at_all p [] t k h = absurd (not-suc-le-zero h)
at_all p (x ∷ xs) t zero h = and_l (p x) (foldr ◌&&◌ true (map p xs)) t
at_all p (x ∷ xs) t (suc k) h = at_all p xs (and_r (p x) (foldr ◌&&◌ true (map p xs)) t) k (le_of_suc-le-suc h)

at_corners : (p : Float → Bool) (q : Cube) → T (foldr ◌&&◌ true (map p (corners q))) → (k : ℕ) → k < 8 → T (p (corner_of q k))
unfolding corner_of value_at corners
at_corners p q t k h = subst (λ (b : Bool). T (p (cond b (get_or (corners q) k nan) nan))) (sym (lt-ltb k 8 h)) (at_all p (corners q) t k h)

-- the corners' values are those of binary32
abbrev pub all_fit : Cube → Bool
all_fit q = foldr ◌&&◌ true (map (fits binary32) (corners q))

pub eight_fit : (q : Cube)
    → fits binary32 q.c0 ≡ true
    → fits binary32 q.c1 ≡ true
    → fits binary32 q.c2 ≡ true
    → fits binary32 q.c3 ≡ true
    → fits binary32 q.c4 ≡ true
    → fits binary32 q.c5 ≡ true
    → fits binary32 q.c6 ≡ true
    → fits binary32 q.c7 ≡ true
    → T (all_fit q)
unfolding corners
eight_fit q a b c d e f g h = rw (a, b, c, d, e, f, g, h) tt

-- the cube's set as answers
abbrev members : Cube → List Bool
members q = map (λ n. lt plus_zero (corner_of q n)) eight

module _ (q : Cube) (real : T (all_finite q)) (fit : T (all_fit q)) (clear : T (no_zeros q)) where
  -- whether corner k times s is above 0
  abbrev sided : ℤ → ℕ → Bool
  sided s k = lt plus_zero (mul binary32 (corner_of q k) (of_int binary32 s))

  plus : (k : ℕ) → k < 8 → sided (pos 7) k ≡ lt plus_zero (corner_of q k)
  unfolding all_finite no_zeros
  plus k h = by_7 (corner_of q k) (at_corners finite q real k h) (at_corners (fits binary32) q fit k h) (at_corners (λ x. not (eq x plus_zero)) q clear k h)

  minus : (k : ℕ) → k < 8 → sided (negsuc 6) k ≡ not (lt plus_zero (corner_of q k))
  unfolding all_finite no_zeros
  minus k h = by_minus_7 (corner_of q k) (at_corners finite q real k h) (at_corners (fits binary32) q fit k h) (at_corners (λ x. not (eq x plus_zero)) q clear k h)

  abbrev any : ℤ → Bool
  any s = any_pair f32 (corner_of q) s

  any_plus : any (pos 7) ≡ any_match (both_in (members q)) diagonals56
  unfolding any_pair any_match
  any_plus = λ i.
      (plus 0 (lit< tt) i && plus 6 (lit< tt) i)
      || ((plus 1 (lit< tt) i && plus 7 (lit< tt) i) || ((plus 2 (lit< tt) i && plus 4 (lit< tt) i) || ((plus 3 (lit< tt) i && plus 5 (lit< tt) i) || false)))

  any_minus : any (negsuc 6) ≡ any_match (both_out (members q)) diagonals56
  unfolding any_pair any_match
  any_minus = λ i.
      (minus 0 (lit< tt) i && minus 6 (lit< tt) i)
      || ((minus 1 (lit< tt) i && minus 7 (lit< tt) i) || ((minus 2 (lit< tt) i && minus 4 (lit< tt) i) || ((minus 3 (lit< tt) i && minus 5 (lit< tt) i) || false)))

  -- a pair matches
  pair_matches : (s : ℤ) → T (has_diagonal (members q) s) → T (any s)
  unfolding has_diagonal
  pair_matches (pos n) t =
      let b = any_match (both_in (members q)) diagonals56 in
      subst (λ (k : ℕ). T (any (pos k))) (sym (eqb→eq n 7 (and_l (eqb n 7) b t))) (subst T (sym any_plus) (and_r (eqb n 7) b t))
  pair_matches (negsuc n) t =
      let b = any_match (both_out (members q)) diagonals56 in
      subst (λ (k : ℕ). T (any (negsuc k))) (sym (eqb→eq n 6 (and_l (eqb n 6) b t))) (subst T (sym any_minus) (and_r (eqb n 6) b t))

  none_at_test : (ns : List ℕ) (s : ℤ) → T (are_ambiguous_faces ns) → T (has_diagonal (members q) s) → (inside_of q ns s).notes.unmatched ≡ 0
  none_at_test ns s t u = unmatched_all q ns s t ∙ none (any s) (length ns) (pair_matches s u)
    where
      none : (b : Bool) (n : ℕ) → T b → cond b 0 n ≡ 0
      none true n h = refl
      none false n h = absurd h

  none_in_choice : (choice_of (family_of (set_of q)).case (family_of (set_of q)).configuration q).notes.unmatched ≡ 0
  unfolding choice_of set_of set_by
  none_in_choice = none_in (answers_of q) (members q) none_at_test (plan_by (family_of (set_of q))) no_notes refl (by_family (members q) refl)

-- ---- the front, b being what the code has found of the corners
pub none_chosen : (q : Cube) → T (all_fit q) → (b : Bool) → b ≡ all_finite q → b ≡ true → (r : Reached) → r ≡ choice_for q → NoneUnmatched q (made r)
none_chosen q fit b e h r i clear = ap (λ (r : Reached). r.notes.unmatched) i ∙ none_in_choice q (subst T (sym h ∙ e) tt) fit clear
