-- The diagonal pick as code makes it: the four pairs, their set as a number, and the edge that the table has for it. Assumes nothing.
use mathlib.Core.Path.{◌≡◌, refl, sym, ap, subst, ◌∙◌}
use mathlib.Core.Bool.{Bool, true, false, not, cond, beq, ◌&&◌}
use mathlib.Core.List.{List, [], ◌∷◌}
use Prim.Native.Nat.{ℕ, zero, suc, ◌-◌, ◌≤◌, ◌<◌}
use native.Mathlib.Nat.{not-suc-le-zero}
use native.Mathlib.Omega.{arith}
use lib.Dec.{T, ltb, eqb, eqb→eq, ltb→lt, lt→ltb, lit≤}
use lib.IntN.{ℤ, pos, negsuc}
use lib.ListN.{get_or}
use lib.Ieee.{Float, binary32, mul, lt, of_bits, of_int}
use lib.Ieee.Fits.{and_l, and_r}
use mir.Syntax.{w8}
use mir.Val.{SFits, to_z, of_z}
use mir.ValLaws.{to_z-of_z}
use Rattle.binary32.specs.Numbers.{Numbers}
use Rattle.cube.specs.declared.Cube.{Cube}
use Rattle.cube.specs.Bits.{number_of}
use Rattle.cube.specs.Corners.{corners, value_at, corner_of}
use Rattle.cube.proofs.Table.{all_under, under}
use Rattle.edge.specs.Edge.{is_edge}
use Rattle.interior.specs.declared.Diagonals.{Diagonals}
use Rattle.interior.specs.declared.TheConstants.{EDGES}
use Rattle.interior.specs.Pick.{Diagonal, diagonals, last_match, any_match, IsAmbiguousFace, Picked, pick_with, any_pair, pick_by}
use Rattle.interior.specs.Diagonals.{diagonals_by, diagonals_of, held_by, set_of}

-- ---- the four pairs: s comes as a float made of the bits of an i8
abbrev matched : ℤ → Float → Float → Bool
matched s x y =
    lt (of_bits binary32 0) (mul binary32 x (of_int binary32 (to_z w8 (of_z w8 s))))
    && lt (of_bits binary32 0) (mul binary32 y (of_int binary32 (to_z w8 (of_z w8 s))))

pub all_pairs : (q : Cube) (s : ℤ) → SFits w8 s
    → ◌≡◌ {A = Diagonals} (record { from0 = matched s q.c0 q.c6; from1 = matched s q.c1 q.c7; from2 = matched s q.c2 q.c4; from3 = matched s q.c3 q.c5 }) (diagonals_of q s)
unfolding diagonals_by corner_of value_at corners of_bits
all_pairs q s f = rw (to_z-of_z w8 s f)

-- ---- the table of edges, by face and by the set of the pairs that match
-- the entry for a face and a set is the edge of the last pair that matches, and the set is not 0 where any does: one test over all sets and faces
abbrev entry : ℕ → ℕ → ℤ
entry n set = to_z w8 (of_z w8 (get_or (get_or EDGES (n - 1) []) set (pos 0)))

abbrev is_pos : ℤ → ℕ → Bool
is_pos (pos k) m = eqb k m
is_pos (negsuc k) m = false

pos_lem : (z : ℤ) (m : ℕ) → T (is_pos z m) → z ≡ pos m
pos_lem (pos k) m t = ap pos (eqb→eq k m t)
pos_lem (negsuc k) m t = absurd t

module _ (d : Diagonals) (n : ℕ) where
  abbrev picked : Picked
  picked = pick_with (held_by d) n

  abbrev same_edge : Bool
  same_edge = is_pos (entry n (set_of d)) picked.edge

  abbrev same_match : Bool
  same_match = beq (not (eqb (set_of d) 0)) picked.matched

  abbrev is_right : Bool
  is_right = same_edge && same_match

abbrev right : Bool → Bool → Bool → Bool → Bool
right a b c e =
    let d : Diagonals = record { from0 = a; from1 = b; from2 = c; from3 = e } in
    all_under 6 (λ n. is_right d (suc n))

-- at both answers
abbrev always : (Bool → Bool) → Bool
always p = p true && p false

each : (p : Bool → Bool) → T (always p) → (b : Bool) → T (p b)
each p t true = and_l (p true) (p false) t
each p t false = and_r (p true) (p false) t

all_right : T (always (λ a. always (λ b. always (λ c. always (right a b c)))))
unfolding set_of number_of held_by pick_with last_match any_match diagonals
all_right = tt

right_at : (a b c e : Bool) → T (right a b c e)
right_at a b c e = each (right a b c) (each (λ c. always (right a b c)) (each (λ b. always (λ c. always (right a b c))) (each (λ a. always (λ b. always (λ c. always (right a b c)))) all_right a) b) c) e

right_for : (d : Diagonals) (n : ℕ) → IsAmbiguousFace n → T (is_right d n)
right_for d zero (h, l) = absurd (not-suc-le-zero h)
right_for d (suc n) (h, l) = under 6 (λ n. is_right d (suc n)) (right_at d.from0 d.from1 d.from2 d.from3) n (omega (arith, l))

same_answer : (a b : Bool) → T (beq a b) → a ≡ b
same_answer true true h = refl
same_answer true false h = absurd h
same_answer false true h = absurd h
same_answer false false h = refl

module _ (d : Diagonals) (n : ℕ) (h : IsAmbiguousFace n) where
  last_entry : entry n (set_of d) ≡ pos (picked d n).edge
  last_entry = pos_lem (entry n (set_of d)) (picked d n).edge (and_l (same_edge d n) (same_match d n) (right_for d n h))

  any_in_set : not (eqb (set_of d) 0) ≡ (picked d n).matched
  any_in_set = same_answer (not (eqb (set_of d) 0)) (picked d n).matched (and_r (same_edge d n) (same_match d n) (right_for d n h))

-- ---- whatever matches, an edge is picked: one of the pairs' or edge 0
abbrev all_edges : List Diagonal → Bool
all_edges [] = true
all_edges (d ∷ ds) = ltb d.edge 12 && all_edges ds

last_below : (matches : Diagonal → Bool) (edge : ℕ) (ds : List Diagonal) → edge < 12 → T (all_edges ds) → last_match matches edge ds < 12
unfolding last_match
last_below matches edge [] h t = h
last_below matches edge (d ∷ ds) h t =
    last_below matches (cond (matches d) d.edge edge) ds
    (by_match (matches d) d.edge edge (ltb→lt d.edge 12 (and_l (ltb d.edge 12) (all_edges ds) t)) h)
    (and_r (ltb d.edge 12) (all_edges ds) t)
  where
    by_match : (b : Bool) (k l : ℕ) → k < 12 → l < 12 → cond b k l < 12
    by_match true k l i h = i
    by_match false k l i h = h

all_edges_lem : T (all_under 7 (λ n. all_edges (get_or diagonals n [])))
unfolding diagonals
all_edges_lem = tt

pub an_edge : (matches : Diagonal → Bool) (n : ℕ) → n ≤ 6 → (pick_with matches n).edge < 12
unfolding pick_with
an_edge matches n h = last_below matches 0 (get_or diagonals n []) (omega arith) (under 7 (λ n. all_edges (get_or diagonals n [])) all_edges_lem n (omega (arith, h)))

-- ---- the pick
module _ (d : Diagonals) where
  pub edge_picked : (n : ℕ) → IsAmbiguousFace n → (set : ℕ) → (set ≤ 15) × (set ≡ set_of d)
      → (entry n set ≡ pos (pick_with (held_by d) n).edge) × T (is_edge (entry n set))
  edge_picked n h set (l, se) = (e, subst (λ (z : ℤ). T (is_edge z)) (sym e) (lt→ltb (pick_with (held_by d) n).edge 12 (an_edge (held_by d) n h.1)))
    where
      e : entry n set ≡ pos (pick_with (held_by d) n).edge
      e = rw se (last_entry d n h)

  pub matched_for : (set : ℕ) → (set ≤ 15) × (set ≡ set_of d) → (n : ℕ) → IsAmbiguousFace n → not (eqb set 0) ≡ (pick_with (held_by d) n).matched
  matched_for set (l, se) n h = rw se (any_in_set d n h)

-- ---- the pairs as the code holds them give document 01's picks, over any kind of number
module _ (K : Numbers) (corner : ℕ → K.N) (s : ℤ) where
  pub same_picks : (n : ℕ) → pick_with (held_by (diagonals_by K corner s)) n ≡ pick_by K corner s n
  unfolding pick_by pick_with held_by diagonals_by last_match any_match diagonals
  same_picks zero = refl
  same_picks (suc zero) = refl
  same_picks (suc (suc zero)) = refl
  same_picks (suc (suc (suc zero))) = refl
  same_picks (suc (suc (suc (suc zero)))) = refl
  same_picks (suc (suc (suc (suc (suc zero))))) = refl
  same_picks (suc (suc (suc (suc (suc (suc zero)))))) = refl
  same_picks (suc (suc (suc (suc (suc (suc (suc n))))))) = refl

  -- a pick has a match where any of the four pairs does, whichever face it is made for: by the set, and face 5 has them as `any_pair` does
  by_set : (n : ℕ) → IsAmbiguousFace n → (pick_by K corner s n).matched ≡ not (eqb (set_of (diagonals_by K corner s)) 0)
  by_set n h = ap (λ (p : Picked). p.matched) (sym (same_picks n)) ∙ sym (any_in_set (diagonals_by K corner s) n h)

  five : (pick_by K corner s 5).matched ≡ any_pair K corner s
  unfolding pick_by pick_with diagonals any_pair
  five = refl

  pub matched_any : (n : ℕ) → IsAmbiguousFace n → (pick_by K corner s n).matched ≡ any_pair K corner s
  matched_any n h = by_set n h ∙ sym (by_set 5 (lit≤ tt, lit≤ tt)) ∙ five
