-- One trust for a face, whichever of its two cubes is asked and with either sign. Assumes nothing.
use mathlib.Core.Path.{◌≡◌, refl, sym, ap, ◌∙◌, subst}
use mathlib.Core.Logic.{inl, inr}
use mathlib.Core.Bool.{Bool, true, false, not, ◌&&◌, ◌||◌, beq, cond}
use Prim.Native.Nat.{ℕ}
use native.Mathlib.Nat.{mul_comm}
use lib.Dec.{T, ltb}
use lib.IntN.{ℤ, neg_ℤ, nat_abs}
use lib.Ieee.{Float, binary32, low, neg}
use Rattle.binary32.specs.Range.{in_range}
use Rattle.binary32.specs.Wholes.{whole_of}
use Rattle.binary32.proofs.Bools.{either, four, or_left, or_right, of_four}
use Rattle.cube.specs.declared.Cube.{Cube}
use Rattle.face.specs.declared.Square.{Square}
use Rattle.face.specs.Face.{is_face, is_positive, answer, test_face_of}
use Rattle.face.specs.Laws.{up_and_down, alternate}
use Rattle.face.specs.Columns.{square_of}
use Rattle.face.specs.TrueJoin.{Over}
use Rattle.face.proofs.Decision.{square}
use Rattle.face.proofs.Laws.{other_face}
use Rattle.face.proofs.TrueJoin.{sizes}
use Rattle.trust.specs.declared.Trust.{Trust}
use Rattle.trust.specs.declared.Trust.TheVariants.{Sure, Turned}
use Rattle.trust.specs.Trust.{otherwise, turned_of, trust_of, OverWholes, OneTrust}
use Rattle.trust.proofs.Turning.{by_products}
use Rattle.trust.proofs.Trusting.{answered_face, alternating, by_trust}

turn_round : (a b c d : Float) → T (alternate a b c d) → T (alternate d c b a)
unfolding alternate up_and_down
turn_round a b c d t =
    elim (either (up_and_down a b c d) (up_and_down b a d c) t) [
      | inl u ↦ let h = four (in_range a) (in_range (neg b)) (in_range c) (in_range (neg d)) u in or_right (up_and_down d c b a) (up_and_down c d a b) (of_four (in_range c) (in_range (neg d)) (in_range a) (in_range (neg b)) h.2 h.3 h.0 h.1)
      | inr u ↦ let h = four (in_range b) (in_range (neg a)) (in_range d) (in_range (neg c)) u in or_left (up_and_down d c b a) (up_and_down c d a b) (of_four (in_range d) (in_range (neg c)) (in_range b) (in_range (neg a)) h.2 h.3 h.0 h.1)
    ]

-- the sign of a is the other one where the values are turned round
other_along : (p s r : Bool) → beq r (beq p (not (not s))) ≡ not (beq r (beq p (not s)))
other_along true true true = refl
other_along true true false = refl
other_along true false true = refl
other_along true false false = refl
other_along false true true = refl
other_along false true false = refl
other_along false false true = refl
other_along false false false = refl

both_other : (p x r : Bool) → beq (not r) (beq (not p) x) ≡ beq r (beq p x)
both_other true true true = refl
both_other true true false = refl
both_other true false true = refl
both_other true false false = refl
both_other false true true = refl
both_other false true false = refl
both_other false false true = refl
both_other false false false = refl

exchanged : (x y u : Bool) → (x && not (not u)) || (y && not u) ≡ (y && not u) || (x && u)
exchanged true true true = refl
exchanged true true false = refl
exchanged true false true = refl
exchanged true false false = refl
exchanged false true true = refl
exchanged false true false = refl
exchanged false false true = refl
exchanged false false false = refl

module _ (k : ℕ) (a b c d : Float) (A B C D : ℤ) (t : T (alternate a b c d)) (o : Over k a b c d A B C D) (n : ℤ) (f : T (is_face n)) (r : Bool) where
  abbrev side : Bool
  side = (square a b c d t).0

  abbrev along : Bool
  along = beq (is_positive n) (not side)

  round : T (alternate d c b a)
  round = turn_round a b c d t

  sign_of_d : (square d c b a round).0 ≡ not side
  sign_of_d = sym (square d c b a round).1.at_a.sign ∙ (square a b c d t).1.at_d.sign

  round_otherwise : otherwise n A B C D r ≡ otherwise n D C B A r
  round_otherwise =
      let u = beq r along in
      sym (by_products k a b c d A B C D t o n f r)
      ∙ sym (exchanged (ltb (sizes A C) (sizes B D)) (ltb (sizes B D) (sizes A C)) u)
      ∙ (λ i. (ltb (mul_comm (nat_abs A) (nat_abs C) i) (mul_comm (nat_abs B) (nat_abs D) i) && not (sym (other_along (is_positive n) side r) i)) || (ltb (mul_comm (nat_abs B) (nat_abs D) i) (mul_comm (nat_abs A) (nat_abs C) i) && sym (other_along (is_positive n) side r) i))
      ∙ (λ i. (ltb (sizes C A) (sizes D B) && not (beq r (beq (is_positive n) (not (sym sign_of_d i))))) || (ltb (sizes D B) (sizes C A) && beq r (beq (is_positive n) (not (sym sign_of_d i)))))
      ∙ by_products k d c b a D C B A round (record { at_a = o.at_d; at_b = o.at_c; at_c = o.at_b; at_d = o.at_a }) n f r

  other_otherwise : otherwise n A B C D r ≡ otherwise (neg_ℤ n) A B C D (not r)
  other_otherwise =
      let g = other_face n f in
      let e : beq (not r) (beq (is_positive (neg_ℤ n)) (not side)) ≡ beq r along = ap (λ (x : Bool). beq (not r) (beq x (not side))) g.1 ∙ both_other (is_positive n) (not side) r in
      sym (by_products k a b c d A B C D t o n f r)
      ∙ (λ i. (ltb (sizes B D) (sizes A C) && not (sym e i)) || (ltb (sizes A C) (sizes B D) && sym e i))
      ∙ by_products k a b c d A B C D t o (neg_ℤ n) g.0 (not r)

pub one_trust : (n : ℤ) (s : Square) (r : Bool) (t : Trust) → t ≡ trust_of n s r → T (is_face n) → (T (alternate s.a s.b s.c s.d) → OverWholes s) → OneTrust n s r t
unfolding turned_of
one_trust n v r t e f w = record {
  turned_round = λ u. let p : Square = record { a = v.d; b = v.c; c = v.b; d = v.a } in
      by_trust n v r t e u
      ∙ ap (λ (x : Bool). cond x Turned Sure) (round_otherwise (low binary32) v.a v.b v.c v.d (whole_of v.a) (whole_of v.b) (whole_of v.c) (whole_of v.d) u (w u) n f r)
      ∙ sym (alternating n p r (turn_round v.a v.b v.c v.d u));
  other_sign = λ u.
      by_trust n v r t e u
      ∙ ap (λ (x : Bool). cond x Turned Sure) (other_otherwise (low binary32) v.a v.b v.c v.d (whole_of v.a) (whole_of v.b) (whole_of v.c) (whole_of v.d) u (w u) n f r)
      ∙ sym (alternating (neg_ℤ n) v (not r) u);
}

pub one_at : (q : Cube) (n : ℤ) (r : Bool) (t : Trust) (s : Square) → s ≡ square_of q n → answer r ≡ test_face_of q n → t ≡ trust_of n s r → (T (alternate s.a s.b s.c s.d) → OverWholes s) → OneTrust n (square_of q n) r t
one_at q n r t s same e h w = subst (λ (x : Square). OneTrust n x r t) same (one_trust n s r t h (answered_face q n r e) w)
