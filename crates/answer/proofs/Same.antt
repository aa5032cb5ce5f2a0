-- Two lists held against each other element by element. Assumes nothing.
use mathlib.Core.Path.{◌≡◌, refl, ap}
use mathlib.Core.Bool.{true, false, ◌&&◌}
use mathlib.Core.List.{List, [], ◌∷◌}
use Prim.Native.Nat.{ℕ, suc}
use lib.Dec.{eqb, not_T}
use lib.Ieee.Bits.{is_true, is_false}
use lib.ListN.{length}
use Rattle.std.proofs.Common.{nat_eq}
use Rattle.std.specs.Cmp.Lexicographic.{pointwise}
use Rattle.std.proofs.lemmas.Bool.{and_parts}
use Rattle.answer.specs.Answer.{same}

pub equal_lengths : (xs ys : List ℕ) → same xs ys ≡ true → length xs ≡ length ys
unfolding same
equal_lengths [] [] h = refl
equal_lengths [] (y ∷ ys) h = cc
equal_lengths (x ∷ xs) [] h = cc
equal_lengths (x ∷ xs) (y ∷ ys) h = ap suc (equal_lengths xs ys (and_parts (eqb x y) (same xs ys) h).1)

pub unequal_lengths : (xs ys : List ℕ) → (length xs ≡ length ys → ⊥) → same xs ys ≡ false
unequal_lengths xs ys h = is_false (same xs ys) (not_T (same xs ys) (λ t. h (equal_lengths xs ys (is_true (same xs ys) t))))

-- as the library compares slices
pub pointwise_same : (xs ys : List ℕ) → pointwise nat_eq xs ys ≡ same xs ys
unfolding same
pointwise_same [] [] = refl
pointwise_same [] (y ∷ ys) = refl
pointwise_same (x ∷ xs) [] = refl
pointwise_same (x ∷ xs) (y ∷ ys) = ap (λ b. eqb x y && b) (pointwise_same xs ys)
