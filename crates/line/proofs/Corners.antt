-- The eight corners of a line, and the line of two numbers and corners. Assumes nothing.
use mathlib.Core.Path.{◌≡◌, refl}
use mathlib.Core.Bool.{Bool, true, false, ◌&&◌}
use mathlib.Core.List.{List, [], ◌∷◌, map, foldr}
use Prim.Native.Nat.{ℕ, zero, suc, ◌+◌, ◌*◌, ◌<◌}
use native.Mathlib.Omega.{arith}
use lib.Dec.{ltb}
use lib.ListN.{length, get_or}
use borrow.Author.Tests.{ltb-true, lt-ltb, eq-eqb, ne_eqb}
use Rattle.cube.specs.Corners.{cube}
use Rattle.cube.proofs.Table.{agree}
use Rattle.hex_digits.specs.Hex.{word_of}
use Rattle.hex_digits.proofs.Digits.{first, second}
use Rattle.line.specs.Line.{corner_bits, have_corners, cube_in}

module _ (tail : List ℕ) (k : ℕ) where
  pub after_space : get_or tail (9 * k) 0 ≡ 32 → corner_bits tail k ≡ word_of tail (9 * k + 1)
  unfolding corner_bits
  after_space h = rw (eq-eqb (get_or tail (9 * k) 0) 32 h)

  pub no_space : (get_or tail (9 * k) 0 ≡ 32 → ⊥) → corner_bits tail k ≡ 0x1_0000_0000
  unfolding corner_bits
  no_space h = rw (ne_eqb (get_or tail (9 * k) 0) 32 h)

pub ruleset spaces = (after_space, no_space)

abbrev all_low : List ℕ → Bool
all_low bits = foldr ◌&&◌ true (map (λ b. ltb b 0x1_0000_0000) bits)

abbrev bits_in : List ℕ → List ℕ
bits_in tail = map (corner_bits tail) (0 ∷ 1 ∷ 2 ∷ 3 ∷ 4 ∷ 5 ∷ 6 ∷ 7 ∷ [])

each_low : (bits : List ℕ) → all_low bits ≡ true → (i : ℕ) → i < length bits → get_or bits i 0 < 0x1_0000_0000
each_low [] h i l = absurd (omega arith)
each_low (b ∷ bits) h zero l = ltb-true b 0x1_0000_0000 (first (ltb b 0x1_0000_0000) (all_low bits) h)
each_low (b ∷ bits) h (suc i) l = each_low bits (second (ltb b 0x1_0000_0000) (all_low bits) h) i (omega arith)

-- each of a line's corners is a number of 32 bits
pub each_corner : (tail : List ℕ) → have_corners tail ≡ true → (k : ℕ) → k < 8 → corner_bits tail k < 0x1_0000_0000
unfolding have_corners
each_corner tail h k l =
    let same : get_or (bits_in tail) k 0 ≡ corner_bits tail k = agree (λ i. get_or (bits_in tail) i 0) (corner_bits tail) 8 refl k l in
    rw same at (each_low (bits_in tail) h k l)

-- one that is none is enough
pub missing : (tail : List ℕ) (k : ℕ) → k < 8 → corner_bits tail k ≡ 0x1_0000_0000 → have_corners tail ≡ false
missing tail k l e = by_test (have_corners tail) refl
  where
    by_test : (t : Bool) → have_corners tail ≡ t → t ≡ false
    by_test true h = absurd (omega (arith, each_corner tail h k l))
    by_test false h = refl

-- all eight are enough
module _ (tail : List ℕ) where
  abbrev Low : ℕ → Type 0
  Low k = corner_bits tail k < 0x1_0000_0000

  pub all_eight : Low 0 → Low 1 → Low 2 → Low 3 → Low 4 → Low 5 → Low 6 → Low 7 → have_corners tail ≡ true
  unfolding have_corners
  all_eight a b c d e f g h = simp (lt-ltb, a, b, c, d, e, f, g, h)

  pub the_cube : cube_in tail
      ≡ cube (corner_bits tail 0) (corner_bits tail 1) (corner_bits tail 2) (corner_bits tail 3) (corner_bits tail 4) (corner_bits tail 5) (corner_bits tail 6) (corner_bits tail 7)
  unfolding cube_in
  the_cube = refl

pub ruleset cubes = (missing, all_eight, the_cube)
