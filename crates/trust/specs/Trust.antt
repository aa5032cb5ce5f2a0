-- Document 02, Change 6, told of one face: whether its answer is the true join. Each value is a whole number over 2 ^ 149, so E is exact. Definitions only.
use Rattle.std.specs.Prelude.{◌≡◌, ℕ, Bool, true, false, cond, not, ◌&&◌, eqb, T, ℤ, neg_ℤ, nat_abs, Result, Ok, Err}
use Rattle.std.specs.Bool.{beq}
use Rattle.std.specs.Float.{binary32}
use Rattle.std.specs.Float.Ieee.{low}
use Rattle.binary32.specs.Wholes.{whole_of}
use Rattle.cube.specs.declared.Cube.{Cube}
use Rattle.cube.specs.declared.Refusal.{Refusal}
use Rattle.cube.specs.Refusals.{refusal_number}
use Rattle.face.specs.declared.Square.{Square}
use Rattle.face.specs.Face.{test_face_of}
use Rattle.face.specs.Face as Face
use Rattle.face.specs.Laws.{alternate}
use Rattle.face.specs.Columns.{square_of}
use Rattle.face.specs.TrueJoin.{Over, e_of, far_from_zero, far_for_sum, true_answer, untied}
use Rattle.trust.specs.declared.Trust.{Trust}
use Rattle.trust.specs.declared.Trust.TheVariants.{Sure, Turned, Unknown}
use Rattle.trust.specs.declared.FaceTrust.{FaceTrust}

-- the exact sign of face × a × E says otherwise than the answer r. Where E is 0 it says nothing
abbrev pub otherwise : ℤ → ℤ → ℤ → ℤ → ℤ → Bool → Bool
otherwise n A B C D r = not (eqb (nat_abs (e_of A B C D)) 0) && not (beq r (true_answer n A B C D))

-- of the answer r for the face number n and a face's values
unfoldable pub turned_of : ℤ → Square → Bool → Bool
turned_of n s r = otherwise n (whole_of s.a) (whole_of s.b) (whole_of s.c) (whole_of s.d) r

-- the values are whole over 2 ^ 149
abbrev pub OverWholes : Square → Type 0
OverWholes s = Over (low binary32) s.a s.b s.c s.d (whole_of s.a) (whole_of s.b) (whole_of s.c) (whole_of s.d)

-- sure, or turned: the exact sign says otherwise; not known where the values do not alternate in range
unfoldable pub trust_of : ℤ → Square → Bool → Trust
trust_of n s r = cond (alternate s.a s.b s.c s.d) (cond (turned_of n s r) Turned Sure) Unknown

-- ---- the public routine: what the face test says, refusal 4, then 3, and of an answer its trust
pub data Said : Type 0 where
  told : Bool → Trust → Said
  refused : ℕ → Said

abbrev pub said : Result FaceTrust Refusal → Said
said (Ok t) = told t.answer t.trust
said (Err why) = refused (refusal_number why)

abbrev pub with_trust : ℤ → Square → Face.Said → Said
with_trust n s (Face.answer r) = told r (trust_of n s r)
with_trust n s (Face.refused why) = refused why

unfoldable pub trust_face_of : Cube → ℤ → Said
trust_face_of q n = with_trust n (square_of q n) (test_face_of q n)

-- ---- what it promises of the answer r, with the trust t, for the face number n and a face's values

-- Change 6: sure where the values alternate in range and |E| is at least 2 ^ -22 and at least 2 ^ -22 × S, for every common power of two; and where the answer is no tie
pub record SureWhere (s : Square) (t : Trust) : Type 0 where
  pub far_enough : (k : ℕ) (A B C D : ℤ) → T (alternate s.a s.b s.c s.d) → Over k s.a s.b s.c s.d A B C D → T (far_from_zero k A B C D) → T (far_for_sum A B C D) → t ≡ Sure
  pub no_tie : T (alternate s.a s.b s.c s.d) → T (untied s.a s.b s.c s.d) → t ≡ Sure

-- sure is that the exact sign says nothing else, turned that it does, for every common power of two; and there is one, 2 ^ 149, wherever it is one of these
pub record Means (n : ℤ) (s : Square) (r : Bool) (t : Trust) : Type 0 where
  pub sure : (k : ℕ) (A B C D : ℤ) → Over k s.a s.b s.c s.d A B C D → t ≡ Sure → otherwise n A B C D r ≡ false
  pub turned : (k : ℕ) (A B C D : ℤ) → Over k s.a s.b s.c s.d A B C D → t ≡ Turned → otherwise n A B C D r ≡ true
  pub wholes : T (alternate s.a s.b s.c s.d) → OverWholes s

-- one trust for a face, whichever of its two cubes is asked and with either sign, as the answers agree: the values turned round, d, c, b, a, as the other cube reads
-- them where faces 1 and 3 or 2 and 4 meet, have it too, and so has the number with the other sign, whose answer is the other one
pub record OneTrust (n : ℤ) (s : Square) (r : Bool) (t : Trust) : Type 0 where
  pub turned_round : T (alternate s.a s.b s.c s.d) → t ≡ trust_of n (record { a = s.d; b = s.c; c = s.b; d = s.a }) r
  pub other_sign : T (alternate s.a s.b s.c s.d) → t ≡ trust_of (neg_ℤ n) s (not r)

abbrev pub OfTold : (Bool → Trust → Type 0) → Said → Type 0
OfTold P (told r t) = P r t
OfTold P (refused why) = Unit {0}

abbrev pub SureWhereOf : Cube → ℤ → Said → Type 0
SureWhereOf q n = OfTold (λ r. SureWhere (square_of q n))

abbrev pub MeansOf : Cube → ℤ → Said → Type 0
MeansOf q n = OfTold (Means n (square_of q n))

abbrev pub OneTrustOf : Cube → ℤ → Said → Type 0
OneTrustOf q n = OfTold (OneTrust n (square_of q n))
