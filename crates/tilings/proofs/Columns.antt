-- A function's values as the code keeps them, in a table. The code's table is made of a definition's values by computation, so
-- that a read of it at c is the definition's value at c. Assumes nothing.
use mathlib.Core.Path.{◌≡◌}
use mathlib.Core.List.{List, [], ◌∷◌}
use Prim.Native.Nat.{ℕ, zero, suc, ◌<◌}
use lib.IntN.{ℤ, pos}
use lib.ListN.{get_or}
use mir.Syntax.{w8}
use mir.Val.{to_z, of_z}
use Rattle.cube.proofs.Table.{values_of, agree}

module _ {A : Type 0} where
  -- the first n values
  abbrev pub table_of : (ℕ → A) → ℕ → List A
  table_of f zero = []
  table_of f (suc n) = f 0 ∷ table_of (λ k. f (suc k)) n

-- a signed number of 8 bits as the code reads it
abbrev pub read : ℤ → ℤ
read z = to_z w8 (of_z w8 z)

module _ (f : ℕ → ℤ) where
  abbrev pub tabled : ℕ → ℕ → ℤ
  tabled n c = read (get_or (table_of f n) c (pos 0))

  pub in_table : (n : ℕ) → values_of (tabled n) n ≡ values_of f n → (c : ℕ) → c < n → tabled n c ≡ f c
  in_table n e c h = agree (tabled n) f n e c h
