-- That Change 6 says something, by computation: faces that have its premises, with either answer, and for each premise one that lacks it alone and is answered
-- wrongly. Values are written as bits, a, b, c and d in the order of the face's corners; each is whole over 2 ^ 149. Assumes nothing.
use mathlib.Core.Path.{◌≡◌, refl}
use mathlib.Core.Bool.{Bool, true, false}
use mathlib.Core.List.{List, [], ◌∷◌, map}
use Prim.Native.Nat.{ℕ}
use lib.IntN.{ℤ, pos, negsuc}
use lib.Ieee.{binary32, low, of_bits, neg, sub, mul, lt, eq, le, of_int}
use Rattle.binary32.specs.Numbers.{f32}
use Rattle.binary32.specs.Range.{in_range}
use Rattle.binary32.specs.Wholes.{whole_of}
use Rattle.face.specs.Face.{rule}
use Rattle.face.specs.Laws.{up_and_down, alternate}
use Rattle.face.specs.TrueJoin.{far_from_zero, far_for_sum, true_answer, untied}

-- the three premises, whether it is no tie, the face answer and the one that the exact sign gives
record Join : Type 0 where
  a : ℕ
  b : ℕ
  c : ℕ
  d : ℕ
  face : ℤ
  in_range : Bool
  off_zero : Bool
  off_sum : Bool
  no_tie : Bool
  answer : Bool
  exact : Bool

abbrev join : ℕ → ℕ → ℕ → ℕ → ℤ → Bool → Bool → Bool → Bool → Bool → Bool → Join
join a b c d n r z s t x y = record { a = a; b = b; c = c; d = d; face = n; in_range = r; off_zero = z; off_sum = s; no_tie = t; answer = x; exact = y }

abbrev told : ℕ → ℕ → ℕ → ℕ → ℤ → Join
told a b c d n =
    let x = of_bits binary32 a in
    let y = of_bits binary32 b in
    let z = of_bits binary32 c in
    let w = of_bits binary32 d in
    let A = whole_of x in
    let B = whole_of y in
    let C = whole_of z in
    let D = whole_of w in
    join a b c d n (alternate x y z w) (far_from_zero (low binary32) A B C D) (far_for_sum A B C D) (untied x y z w) (rule f32 n x y z w) (true_answer n A B C D)

joins : List Join
joins =
    -- every premise: E above zero and below it, a of either sign, both signs of the face
    join 0x40000000 0xbf800000 0x40000000 0xbf800000 (pos 5) true true true true true true
    ∷ join 0x40000000 0xbf800000 0x40000000 0xbf800000 (negsuc 4) true true true true false false
    ∷ join 0x3f800000 0xc0000000 0x3f800000 0xc0000000 (pos 1) true true true true false false
    ∷ join 0x3f800000 0xc0000000 0x3f800000 0xc0000000 (negsuc 0) true true true true true true
    ∷ join 0xc0000000 0x3f800000 0xc0000000 0x3f800000 (pos 6) true true true true false false
    ∷ join 0xbf800000 0x40000000 0xbf800000 0x40000000 (negsuc 5) true true true true false false
    -- one step below the range, and its ends, where the answer is no tie though |E| is below 2 ^ -22 × S
    ∷ join 0x358637bd 0xdf000000 0x5f000000 0xb5000000 (pos 2) false true true true true true
    ∷ join 0x358637bd 0xdf000000 0x5f000000 0xb58637be (pos 2) true true false true false false
    -- |E| is 2 ^ -22, and a step less; it is 2 ^ -22 × S, and a step less; val is -2 ^ -23
    ∷ join 0xba800000 0x3a800000 0xba000000 0x39800000 (pos 5) true true true true false false
    ∷ join 0xba800000 0x3a800000 0xb9ffffff 0x39800000 (pos 5) true false true true false false
    ∷ join 0xca800002 0x4a7ffffc 0xbf800000 0x3f800000 (pos 5) true true true true false false
    ∷ join 0xca800004 0x4a800000 0xbf800000 0x3f800000 (pos 5) true true false true false false
    ∷ join 0x3f800000 0xbf800001 0x3f800000 0xbf800000 (pos 5) true false false true false false
    -- |E| is between 2 ^ -22 of either product and 2 ^ -22 × S
    ∷ join 0x3f800000 0xbf800000 0x3f800003 0xbf800000 (pos 5) true true false true true true
    -- E is 2 ^ -24
    ∷ join 0xba000000 0x39800000 0xb9800000 0x39800000 (pos 5) true false true false true false
    -- E is 1.0624 × 2 ^ -23
    ∷ join 0xbf0aaaaf 0x3f3b1287 0xbeec4ec4 0x3eaf2982 (pos 5) true false true false true false
    -- E is 2, and S a little more than 2 ^ 25: 16777225 and 16777223 both round to 16777224
    ∷ join 0xc5045000 0x42e20000 0xc5f7a800 0x4810fdc0 (pos 5) true true false false true false
    -- E is (17/16 - 2 ^ -26) × 2 ^ -23
    ∷ join 0xbe2aaaae 0x3e18e34f 0xbfc00000 0x3fd653af (pos 5) true false true false true false
    -- E is 2, and S is 2 ^ 24 + 4 times E
    ∷ join 0xc0400000 0x44c1a000 0xcaaaaaae 0x46293c00 (pos 5) true true false false true false
    -- out of range: (face × a) × val is -0
    ∷ join 0x00000001 0xba800000 0x00000001 0xba000000 (pos 5) false true true true true false
    -- E is 0
    ∷ join 0x3f800000 0xbf800000 0x3f800000 0xbf800000 (negsuc 4) true false false false false true
    ∷ []

joins_hold : map (λ j. told j.a j.b j.c j.d j.face) joins ≡ joins
unfolding joins alternate up_and_down in_range far_from_zero far_for_sum true_answer untied rule whole_of of_bits neg sub mul lt eq le of_int
joins_hold = refl
