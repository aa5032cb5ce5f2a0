-- A number in -128..127 is read back from its decimal text, which ends at the first space after it. Assumes nothing.
use mathlib.Core.Path.{◌≡◌, refl}
use mathlib.Core.List.{List, ◌∷◌, ◌++◌}
use Prim.Native.Nat.{ℕ}
use lib.Dec.{T, ltb→lt}
use lib.IntN.{ℤ, pos, negsuc}
use lib.ListN.{length}
use Rattle.scan.specs.Bytes.{index_of, index_after}
use Rattle.cube.proofs.Table.{values_of, agree}
use Rattle.put.specs.Decimal.{decimal_in, decimal}
use Rattle.std.proofs.Common.{Option, Some}
use Rattle.line.specs.Number.{decimal_digit, one_digit, two_digits, three_digits, whole_of, signed_of}
use Rattle.line.specs.Written.{in_byte, signed_text}

-- ---- its value: computed at every number
read : ℤ → Option ℤ
read z = signed_of (signed_text z)

not_below : values_of (λ n. read (pos n)) 128 ≡ values_of (λ n. Some (pos n)) 128
unfolding read signed_of signed_text whole_of one_digit two_digits three_digits decimal_digit decimal decimal_in
not_below = refl

below : values_of (λ n. read (negsuc n)) 128 ≡ values_of (λ n. Some (negsuc n)) 128
unfolding read signed_of signed_text whole_of one_digit two_digits three_digits decimal_digit decimal decimal_in
below = refl

pub signed_back : (z : ℤ) → T (in_byte z) → signed_of (signed_text z) ≡ Some z
unfolding read
signed_back (pos n) h = agree (λ k. read (pos k)) (λ k. Some (pos k)) 128 not_below n (ltb→lt n 128 h)
signed_back (negsuc n) h = agree (λ k. read (negsuc k)) (λ k. Some (negsuc k)) 128 below n (ltb→lt n 128 h)

-- ---- its end, whatever follows the space
module _ (rest : List ℕ) where
  space : ℤ → ℕ
  space z = index_of 32 (signed_text z ++ 32 ∷ rest)

  size : ℤ → ℕ
  size z = length (signed_text z)

  after_not_below : values_of (λ n. space (pos n)) 128 ≡ values_of (λ n. size (pos n)) 128
  unfolding space size index_of index_after signed_text decimal decimal_in
  after_not_below = refl

  after_below : values_of (λ n. space (negsuc n)) 128 ≡ values_of (λ n. size (negsuc n)) 128
  unfolding space size index_of index_after signed_text decimal decimal_in
  after_below = refl

  pub first_space : (z : ℤ) → T (in_byte z) → index_of 32 (signed_text z ++ 32 ∷ rest) ≡ length (signed_text z)
  unfolding space size
  first_space (pos n) h = agree (λ k. space (pos k)) (λ k. size (pos k)) 128 after_not_below n (ltb→lt n 128 h)
  first_space (negsuc n) h = agree (λ k. space (negsuc k)) (λ k. size (negsuc k)) 128 after_below n (ltb→lt n 128 h)
