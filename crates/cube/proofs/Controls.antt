-- That the definitions say something, by computation: document 01's number of each refusal; the corners in their order; a column's digits; what is finite;
-- answers as a number; signed numbers taken apart. Values are written as bits. Assumes nothing.
use mathlib.Core.Path.{◌≡◌, refl}
use mathlib.Core.Bool.{Bool, true, false, cond}
use mathlib.Core.List.{List, [], ◌∷◌, map}
use Prim.Native.Nat.{ℕ}
use lib.Dec.{eqb}
use lib.IntN.{pos, negsuc}
use lib.Ieee.{Float, nan, binary32, of_bits}
use Rattle.cube.specs.declared.Cube.{Cube}
use Rattle.cube.specs.declared.Refusal.TheVariants.{NoCase, NoConfiguration, NotFinite, NoFace, NoEdge, UnevenLists, NoRoom, Malformed}
use Rattle.std.specs.Prelude.{Ok, Err}
use Rattle.cube.specs.Bits.{bit_of, number_of}
use Rattle.cube.specs.Corners.{corners, digit_of, value_at, corner_of, all_finite, cube}
use Rattle.cube.specs.Refusals.{refusal_number}
use Rattle.cube.specs.Signs.{split_value}

numbers_hold : map refusal_number (NoCase ∷ NoConfiguration ∷ NotFinite ∷ NoFace ∷ NoEdge ∷ UnevenLists ∷ NoRoom ∷ Malformed ∷ [])
    ≡ 1 ∷ 2 ∷ 3 ∷ 4 ∷ 5 ∷ 6 ∷ 7 ∷ 8 ∷ []
numbers_hold = refl

places : List ℕ
places = 0 ∷ 1 ∷ 2 ∷ 3 ∷ 4 ∷ 5 ∷ 6 ∷ 7 ∷ []

module _ (a b c d e f g h : Float) where
  abbrev q : Cube
  q = record { c0 = a; c1 = b; c2 = c; c3 = d; c4 = e; c5 = f; c6 = g; c7 = h }

  corners_hold : corners q ≡ a ∷ b ∷ c ∷ d ∷ e ∷ f ∷ g ∷ h ∷ []
  unfolding corners
  corners_hold = refl

  -- there is no corner 8
  values_hold : map (corner_of q) (0 ∷ 1 ∷ 2 ∷ 3 ∷ 4 ∷ 5 ∷ 6 ∷ 7 ∷ 8 ∷ []) ≡ a ∷ b ∷ c ∷ d ∷ e ∷ f ∷ g ∷ h ∷ nan ∷ []
  unfolding corner_of value_at corners
  values_hold = refl

bits_hold : corners (cube 0 1 2 3 4 5 6 7) ≡ map (of_bits binary32) places
unfolding corners places
bits_hold = refl

-- the first place is the lowest digit, the last is place 15, and 8 to f are 0 to 7
digits_hold : map (digit_of 0xfedcba9876543210) (0 ∷ 1 ∷ 2 ∷ 3 ∷ 4 ∷ 5 ∷ 6 ∷ 7 ∷ 8 ∷ 9 ∷ 10 ∷ 11 ∷ 12 ∷ 13 ∷ 14 ∷ 15 ∷ 16 ∷ [])
    ≡ 0 ∷ 1 ∷ 2 ∷ 3 ∷ 4 ∷ 5 ∷ 6 ∷ 7 ∷ 0 ∷ 1 ∷ 2 ∷ 3 ∷ 4 ∷ 5 ∷ 6 ∷ 7 ∷ 0 ∷ []
digits_hold = refl

-- ---- what is finite: the value b at corner k of the last finite values and zeros
abbrev with : ℕ → ℕ → Cube
with b k =
    let at : ℕ → ℕ → ℕ = λ i x. cond (eqb i k) b x in
    cube (at 0 0x7f7fffff) (at 1 0xff7fffff) (at 2 1) (at 3 0x80000001) (at 4 0) (at 5 0x80000000) (at 6 0x007fffff) (at 7 0x00800000)

finite_holds : map (λ k. all_finite (with 0x3f800000 k)) places ≡ map (λ k. true) places
unfolding places all_finite corners of_bits
finite_holds = refl

-- NaNs and infinities
not_finite : List ℕ
not_finite = 0x7fc00000 ∷ 0xff800001 ∷ 0x7f800000 ∷ 0xff800000 ∷ []

not_finite_holds : map (λ b. map (λ k. all_finite (with b k)) places) not_finite ≡ map (λ b. map (λ k. false) places) not_finite
unfolding not_finite places all_finite corners of_bits
not_finite_holds = refl

-- ---- answers as a number, and signed numbers
answers_hold : map bit_of (false ∷ true ∷ []) ≡ 0 ∷ 1 ∷ []
answers_hold = refl

three : List (List Bool)
three = [] ∷ (true ∷ false ∷ false ∷ []) ∷ (false ∷ true ∷ false ∷ []) ∷ (false ∷ false ∷ true ∷ []) ∷ (true ∷ true ∷ true ∷ []) ∷ []

three_hold : map number_of three ≡ 0 ∷ 1 ∷ 2 ∷ 4 ∷ 7 ∷ []
unfolding three number_of
three_hold = refl

signs_hold : map split_value (Ok 0 ∷ Ok 127 ∷ Err 0 ∷ Err 127 ∷ []) ≡ pos 0 ∷ pos 127 ∷ negsuc 0 ∷ negsuc 127 ∷ []
signs_hold = refl
