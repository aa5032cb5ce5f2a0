-- Document 02, Change 6: when a face answer is the true join, that of the distances as numbers, free of rounding. The corners' values are taken exactly, as whole
-- numbers A, B, C and D over a common power of two, 2 ^ k; E and S are then whole numbers over 2 ^ (k + k). Definitions only.
use Rattle.std.specs.Prelude.{◌≡◌, ℕ, ◌+◌, ◌*◌, ◌^◌, Bool, leb, T, ℤ, ◌-ℤ◌, ◌*ℤ◌, nat_abs, Float}
use Rattle.std.specs.Int.Signed.{non_neg}
use Rattle.std.specs.Float.{binary32}
use Rattle.std.specs.Float.Ieee.{sub, mul, le}
use Rattle.binary32.specs.Numbers.{magnitude, epsilon}
use Rattle.binary32.specs.Wholes.{Exactly}
use Rattle.cube.specs.declared.Cube.{Cube}
use Rattle.face.specs.Face.{is_face}
use Rattle.face.specs.Laws.{alternate}
use Rattle.face.specs.Columns.{square_of}

-- the values are the whole numbers A, B, C and D over the common power of two 2 ^ k
pub record Over (k : ℕ) (a b c d : Float) (A B C D : ℤ) : Type 0 where
  pub at_a : Exactly k a A
  pub at_b : Exactly k b B
  pub at_c : Exactly k c C
  pub at_d : Exactly k d D

-- E, the exact a×c - b×d
abbrev pub e_of : ℤ → ℤ → ℤ → ℤ → ℤ
e_of A B C D = A *ℤ C -ℤ B *ℤ D

-- S, the exact |a×c| + |b×d|
abbrev pub s_of : ℤ → ℤ → ℤ → ℤ → ℕ
s_of A B C D = nat_abs (A *ℤ C) + nat_abs (B *ℤ D)

-- Change 6's two limits, 2 ^ -22 and 2 ^ -22 × S: how many parts 1 and S are cut into
abbrev pub parts_of_one : ℕ
parts_of_one = 2 ^ 22

abbrev pub parts_of_sum : ℕ
parts_of_sum = 2 ^ 22

-- |E| is at least 2 ^ -22
unfoldable pub far_from_zero : ℕ → ℤ → ℤ → ℤ → ℤ → Bool
far_from_zero k A B C D = leb (2 ^ (k + k)) (nat_abs (e_of A B C D) * parts_of_one)

-- |E| is at least 2 ^ -22 × S
unfoldable pub far_for_sum : ℤ → ℤ → ℤ → ℤ → Bool
far_for_sum A B C D = leb (s_of A B C D) (nat_abs (e_of A B C D) * parts_of_sum)

-- the answer that the exact sign of face × a × E gives: true where it is zero or above
unfoldable pub true_answer : ℤ → ℤ → ℤ → ℤ → ℤ → Bool
true_answer n A B C D = non_neg (n *ℤ A *ℤ e_of A B C D)

-- the rounded a×c - b×d is no tie: at least 2 ^ -23 in magnitude
unfoldable pub untied : Float → Float → Float → Float → Bool
untied a b c d = le epsilon (magnitude (sub binary32 (mul binary32 a c) (mul binary32 b d)))

-- Change 6, of the answer r for the face number n and the values a, b, c, d: let the values alternate in range; where |E| is at least 2 ^ -22 and at least
-- 2 ^ -22 × S, the answer is the one that the exact sign gives. For every common power of two that holds the values
pub record TrueJoin (n : ℤ) (a b c d : Float) (r : Bool) : Type 0 where
  pub far_enough : (k : ℕ) (A B C D : ℤ) → T (is_face n) → T (alternate a b c d) → Over k a b c d A B C D → T (far_from_zero k A B C D) → T (far_for_sum A B C D) → r ≡ true_answer n A B C D

-- the sharper half: an answer that is no tie is always the one that the exact sign gives, since rounding keeps order
pub record NoTieIsTrue (n : ℤ) (a b c d : Float) (r : Bool) : Type 0 where
  pub no_tie : (k : ℕ) (A B C D : ℤ) → T (is_face n) → T (alternate a b c d) → Over k a b c d A B C D → T (untied a b c d) → r ≡ true_answer n A B C D

-- of a cube's face
abbrev pub TrueJoinAt : Cube → ℤ → Bool → Type 0
TrueJoinAt q n r = let s = square_of q n in TrueJoin n s.a s.b s.c s.d r

abbrev pub NoTieIsTrueAt : Cube → ℤ → Bool → Type 0
NoTieIsTrueAt q n r = let s = square_of q n in NoTieIsTrue n s.a s.b s.c s.d r
