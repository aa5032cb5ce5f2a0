-- What the routine says of a face test's answer: that it is one only of a face, where it is sure, and that sure and turned do not hang on the common power of two. Assumes nothing.
use mathlib.Core.Path.{◌≡◌, refl, sym, ap, ◌∙◌, subst}
use mathlib.Core.Logic.{◌⊎◌, inl, inr}
use mathlib.Core.Bool.{Bool, true, false, not, ◌&&◌, ◌||◌, beq, cond}
use Prim.Native.Nat.{ℕ, ◌*◌, ◌^◌, ◌<◌}
use native.Mathlib.Nat.{mul_right_comm, mul-pos, mul-mul-mul_comm, eq_of_mul-eq-mul_right}
use lib.Dec.{T, ltb, eqb}
use lib.IntN.{ℤ, nat_abs}
use lib.Pow.{pow_pos}
use lib.Ieee.{Float, nan, inf, fin, binary32, low, up, down}
use lib.Ieee.Exact.{HasValue}
use lib.Ieee.Fits.{down_pos}
use Rattle.binary32.specs.Numbers.{magnitude}
use Rattle.binary32.specs.Wholes.{Exactly, whole_of}
use Rattle.binary32.proofs.Bools.{beq_true}
use Rattle.binary32.proofs.Wholes.{size_exactly, ltb_times}
use Rattle.cube.specs.declared.Cube.{Cube}
use Rattle.cube.specs.Corners.{all_finite}
use Rattle.face.specs.declared.Square.{Square}
use Rattle.face.specs.Face.{face_of, is_face, is_positive, answer, test_face_of}
use Rattle.face.specs.Face as Face
use Rattle.face.specs.Laws.{alternate}
use Rattle.face.specs.Columns.{square_of}
use Rattle.face.specs.TrueJoin.{Over, e_of, true_answer, TrueJoin, TrueJoinAt, NoTieIsTrue, NoTieIsTrueAt}
use Rattle.face.proofs.Decision.{square}
use Rattle.face.proofs.TrueJoin.{sizes}
use Rattle.trust.specs.declared.Trust.{Trust}
use Rattle.trust.specs.declared.Trust.TheVariants.{Sure, Turned, Unknown}
use Rattle.trust.specs.Trust.{otherwise, turned_of, trust_of, told, refused, with_trust, trust_face_of, OverWholes, SureWhere, Means}
use Rattle.trust.proofs.Turning.{by_products}

-- ---- an answer is one of a face
pub answered_face : (q : Cube) (n : ℤ) (r : Bool) → answer r ≡ test_face_of q n → T (is_face n)
unfolding test_face_of
answered_face q n r e = go (is_face n) e
  where
    go : (b : Bool) → answer r ≡ cond b (cond (all_finite q) (answer (face_of q n)) (Face.refused 3)) (Face.refused 4) → T b
    go true e = tt
    go false e = cc

-- ---- whatever the common power of two
-- one value over two powers
same_value : (k l X Y : ℕ) (x : Float) → HasValue x false X (2 ^ k) → HasValue x false Y (2 ^ l) → X * 2 ^ l ≡ Y * 2 ^ k
same_value k l X Y nan h g = absurd h
same_value k l X Y (inf s) h g = absurd h
same_value k l X Y (fin s m e) h g =
    eq_of_mul-eq-mul_right (down e) (down_pos e) (X * 2 ^ l) (Y * 2 ^ k)
    (mul_right_comm X (2 ^ l) (down e) ∙ ap (λ (z : ℕ). z * 2 ^ l) (sym h.1) ∙ mul_right_comm (m * up e) (2 ^ k) (2 ^ l) ∙ ap (λ (z : ℕ). z * 2 ^ k) g.1 ∙ mul_right_comm Y (down e) (2 ^ k))

same_size : (k l : ℕ) (x : Float) (X Y : ℤ) → Exactly k x X → Exactly l x Y → nat_abs X * 2 ^ l ≡ nat_abs Y * 2 ^ k
same_size k l x X Y h g = same_value k l (nat_abs X) (nat_abs Y) (magnitude x) (size_exactly k x X h) (size_exactly l x Y g)

module _ (k l : ℕ) (a b c d : Float) (A B C D A' B' C' D' : ℤ) (o : Over k a b c d A B C D) (p : Over l a b c d A' B' C' D') where
  first : sizes A C * (2 ^ l * 2 ^ l) ≡ sizes A' C' * (2 ^ k * 2 ^ k)
  first = mul-mul-mul_comm (nat_abs A) (nat_abs C) (2 ^ l) (2 ^ l) ∙ (λ i. same_size k l a A A' o.at_a p.at_a i * same_size k l c C C' o.at_c p.at_c i) ∙ mul-mul-mul_comm (nat_abs A') (2 ^ k) (nat_abs C') (2 ^ k)

  second : sizes B D * (2 ^ l * 2 ^ l) ≡ sizes B' D' * (2 ^ k * 2 ^ k)
  second = mul-mul-mul_comm (nat_abs B) (nat_abs D) (2 ^ l) (2 ^ l) ∙ (λ i. same_size k l b B B' o.at_b p.at_b i * same_size k l d D D' o.at_d p.at_d i) ∙ mul-mul-mul_comm (nat_abs B') (2 ^ k) (nat_abs D') (2 ^ k)

  wl : 0 < 2 ^ l * 2 ^ l
  wl = mul-pos (pow_pos l) (pow_pos l)

  wk : 0 < 2 ^ k * 2 ^ k
  wk = mul-pos (pow_pos k) (pow_pos k)

  less : ltb (sizes A C) (sizes B D) ≡ ltb (sizes A' C') (sizes B' D')
  less = sym (ltb_times (sizes A C) (sizes B D) (2 ^ l * 2 ^ l) wl) ∙ (λ i. ltb (first i) (second i)) ∙ ltb_times (sizes A' C') (sizes B' D') (2 ^ k * 2 ^ k) wk

  more : ltb (sizes B D) (sizes A C) ≡ ltb (sizes B' D') (sizes A' C')
  more = sym (ltb_times (sizes B D) (sizes A C) (2 ^ l * 2 ^ l) wl) ∙ (λ i. ltb (second i) (first i)) ∙ ltb_times (sizes B' D') (sizes A' C') (2 ^ k * 2 ^ k) wk

  pub same_otherwise : (n : ℤ) (r : Bool) → T (is_face n) → T (alternate a b c d) → otherwise n A B C D r ≡ otherwise n A' B' C' D' r
  same_otherwise n r f t =
      let along = beq (is_positive n) (not (square a b c d t).0) in
      sym (by_products k a b c d A B C D t o n f r) ∙ (λ i. (more i && not (beq r along)) || (less i && beq r along)) ∙ by_products l a b c d A' B' C' D' t p n f r

-- ---- as it is stated, for the trust that the routine gives
agreeing : (n A B C D : ℤ) (r : Bool) → r ≡ true_answer n A B C D → otherwise n A B C D r ≡ false
agreeing n A B C D r e = ap (λ (x : Bool). not (eqb (nat_abs (e_of A B C D)) 0) && not x) ((beq_true r (true_answer n A B C D)).1 e) ∙ nothing (not (eqb (nat_abs (e_of A B C D)) 0))
  where
    nothing : (x : Bool) → x && not true ≡ false
    nothing true = refl
    nothing false = refl

pub alternating : (n : ℤ) (s : Square) (r : Bool) → T (alternate s.a s.b s.c s.d) → trust_of n s r ≡ cond (turned_of n s r) Turned Sure
unfolding trust_of
alternating n s r t = go (alternate s.a s.b s.c s.d) t
  where
    go : (b : Bool) → T b → cond b (cond (turned_of n s r) Turned Sure) Unknown ≡ cond (turned_of n s r) Turned Sure
    go true t = refl
    go false t = absurd t

-- in range the trust is sure where the exact sign says nothing else, and turned where it does
module _ (n : ℤ) (s : Square) (r : Bool) (t : Trust) (e : t ≡ trust_of n s r) where
  sure_by : T (alternate s.a s.b s.c s.d) → turned_of n s r ≡ false → t ≡ Sure
  sure_by u g = e ∙ alternating n s r u ∙ ap (λ (x : Bool). cond x Turned Sure) g

  known : t ≡ Unknown ⊎ T (alternate s.a s.b s.c s.d)
  unfolding trust_of
  known = go (alternate s.a s.b s.c s.d) e
    where
      go : (b : Bool) → t ≡ cond b (cond (turned_of n s r) Turned Sure) Unknown → t ≡ Unknown ⊎ T b
      go true h = inr tt
      go false h = inl h

  pub by_trust : T (alternate s.a s.b s.c s.d) → t ≡ cond (turned_of n s r) Turned Sure
  by_trust u = e ∙ alternating n s r u

turned_false : (b : Bool) (t : Trust) → t ≡ cond b Turned Sure → t ≡ Sure → b ≡ false
turned_false true t e h = cc
turned_false false t e h = refl

turned_true : (b : Bool) (t : Trust) → t ≡ cond b Turned Sure → t ≡ Turned → b ≡ true
turned_true true t e h = refl
turned_true false t e h = cc

no_sure : (t : Trust) → t ≡ Unknown → t ≡ Sure → ⊥
no_sure t e h = cc

no_turned : (t : Trust) → t ≡ Unknown → t ≡ Turned → ⊥
no_turned t e h = cc

sure_where : (n : ℤ) (s : Square) (r : Bool) (t : Trust) → t ≡ trust_of n s r → T (is_face n) → (T (alternate s.a s.b s.c s.d) → OverWholes s) → TrueJoin n s.a s.b s.c s.d r → NoTieIsTrue n s.a s.b s.c s.d r → SureWhere s t
unfolding turned_of
sure_where n s r t e f w j h = record {
  far_enough = λ k A B C D u o x y. sure_by n s r t e u (same_otherwise (low binary32) k s.a s.b s.c s.d (whole_of s.a) (whole_of s.b) (whole_of s.c) (whole_of s.d) A B C D (w u) o n r f u ∙ agreeing n A B C D r (j.far_enough k A B C D f u o x y));
  no_tie = λ u v. sure_by n s r t e u (agreeing n (whole_of s.a) (whole_of s.b) (whole_of s.c) (whole_of s.d) r (h.no_tie (low binary32) (whole_of s.a) (whole_of s.b) (whole_of s.c) (whole_of s.d) f u (w u) v));
}

means : (n : ℤ) (s : Square) (r : Bool) (t : Trust) → t ≡ trust_of n s r → T (is_face n) → (T (alternate s.a s.b s.c s.d) → OverWholes s) → Means n s r t
unfolding turned_of
means n s r t e f w = record {
  sure = λ k A B C D o h. elim (known n s r t e) [
    | inl z ↦ absurd (no_sure t z h)
    | inr u ↦ here k A B C D o u ∙ turned_false (turned_of n s r) t (by_trust n s r t e u) h
  ];
  turned = λ k A B C D o h. elim (known n s r t e) [
    | inl z ↦ absurd (no_turned t z h)
    | inr u ↦ here k A B C D o u ∙ turned_true (turned_of n s r) t (by_trust n s r t e u) h
  ];
  wholes = w;
}
  where
    here : (k : ℕ) (A B C D : ℤ) → Over k s.a s.b s.c s.d A B C D → T (alternate s.a s.b s.c s.d) → otherwise n A B C D r ≡ turned_of n s r
    here k A B C D o u = same_otherwise k (low binary32) s.a s.b s.c s.d A B C D (whole_of s.a) (whole_of s.b) (whole_of s.c) (whole_of s.d) o (w u) n r f u

-- ---- the routine, by what the face test says and the values that are read
pub by_refusal : (q : Cube) (n : ℤ) (why : ℕ) → Face.refused why ≡ test_face_of q n → refused why ≡ trust_face_of q n
unfolding trust_face_of
by_refusal q n why e = ap (with_trust n (square_of q n)) e

module _ (q : Cube) (n : ℤ) (r : Bool) (t : Trust) (s : Square) (same : s ≡ square_of q n) (e : answer r ≡ test_face_of q n) (h : t ≡ trust_of n s r) where
  pub by_answer : told r t ≡ trust_face_of q n
  unfolding trust_face_of
  by_answer = ap (told r) (h ∙ ap (λ (x : Square). trust_of n x r) same) ∙ ap (with_trust n (square_of q n)) e

  pub sure_at : (T (alternate s.a s.b s.c s.d) → OverWholes s) → TrueJoinAt q n r → NoTieIsTrueAt q n r → SureWhere (square_of q n) t
  sure_at w j l =
      subst (λ (x : Square). SureWhere x t) same
      (sure_where n s r t h (answered_face q n r e) w (subst (λ (x : Square). TrueJoin n x.a x.b x.c x.d r) (sym same) j) (subst (λ (x : Square). NoTieIsTrue n x.a x.b x.c x.d r) (sym same) l))

  pub means_at : (T (alternate s.a s.b s.c s.d) → OverWholes s) → Means n (square_of q n) r t
  means_at w = subst (λ (x : Square). Means n x r t) same (means n s r t h (answered_face q n r e) w)
