-- What the face test promises beside its rule (document 01, 'Places and their forms': exact tie, sign symmetry between cubes, NaN). Definitions only.
use Rattle.std.specs.Prelude.{◌≡◌, Bool, false, not, ◌&&◌, ◌||◌, T, ℤ, neg_ℤ, Float}
use Rattle.std.specs.Float.{nan, binary32}
use Rattle.std.specs.Float.Ieee.{neg, sub, mul, lt}
use Rattle.binary32.specs.Numbers.{f32, magnitude, epsilon}
use Rattle.binary32.specs.Range.{in_range}
use Rattle.cube.specs.declared.Cube.{Cube}
use Rattle.face.specs.Face.{is_positive, is_face, rule, Said, answer, refused}
use Rattle.face.specs.Columns.{square_of}

-- a and c are above zero and b and d below, each magnitude in the range
unfoldable pub up_and_down : Float → Float → Float → Float → Bool
up_and_down a b c d = in_range a && in_range (neg b) && in_range c && in_range (neg d)

-- term 3's premise: the signs alternate, a and c have one sign, b and d the other, and each magnitude is in the range
unfoldable pub alternate : Float → Float → Float → Float → Bool
alternate a b c d = up_and_down a b c d || up_and_down b a d c

-- r is the answer for the face number n and the values a, b, c, d
pub record FaceLaws (n : ℤ) (a b c d : Float) (r : Bool) : Type 0 where
  -- strictly within 2 ^ -23 of zero the face number's sign decides, whatever the values
  pub tie : T (lt (magnitude (sub binary32 (mul binary32 a c) (mul binary32 b d))) epsilon) → r ≡ is_positive n
  -- a NaN val answers false
  pub not_a_number : sub binary32 (mul binary32 a c) (mul binary32 b d) ≡ nan → r ≡ false
  -- the values turned round, d, c, b, a, as the other cube reads them where faces 1 and 3 or 2 and 4 meet, have the same answer
  -- for the same number
  pub symmetry : T (is_face n) → T (alternate a b c d) → r ≡ rule f32 n d c b a
  -- and the number with the other sign has the other answer
  pub against : T (is_face n) → T (alternate a b c d) → r ≡ not (rule f32 (neg_ℤ n) a b c d)

-- of a cube's face, and of what the public routine says, where it is an answer
abbrev pub FaceLawsAt : Cube → ℤ → Bool → Type 0
FaceLawsAt q n r = let s = square_of q n in FaceLaws n s.a s.b s.c s.d r

abbrev pub OfAnswer : (Bool → Type 0) → Said → Type 0
OfAnswer P (answer r) = P r
OfAnswer P (refused why) = Unit {0}
