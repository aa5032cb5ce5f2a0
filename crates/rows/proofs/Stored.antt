-- Bytes stored one after another are a text put at its place. Assumes nothing.
use mathlib.Core.Path.{◌≡◌, refl, sym, ap, ◌∙◌}
use mathlib.Core.List.{List, [], ◌∷◌, ◌++◌}
use Prim.Native.Nat.{ℕ, zero, suc, ◌+◌, ◌≤◌, ◌<◌}
use native.Mathlib.Nat.{not-suc-le-zero}
use native.Mathlib.Omega.{arith}
use lib.ListN.{length, take, drop, set, length-set}
use Rattle.put.specs.Placed.{placed}
use Rattle.put.proofs.Placed.{placed_nothing, placed_twice}

-- one byte
in_front : (xs : List ℕ) (at v : ℕ) → at < length xs → set xs at v ≡ take at xs ++ (v ∷ drop (suc at) xs)
in_front [] at v h = absurd (not-suc-le-zero h)
in_front (x ∷ xs) zero v h = refl
in_front (x ∷ xs) (suc at) v h = ap (λ (ys : List ℕ). x ∷ ys) (in_front xs at v (omega arith))

one_stored : (xs : List ℕ) (at v : ℕ) → at < length xs → set xs at v ≡ placed xs at (v ∷ [])
unfolding placed
one_stored xs at v h = let e : suc at ≡ at + 1 = omega arith in in_front xs at v h ∙ ap (λ (k : ℕ). take at xs ++ (v ∷ drop k xs)) e

-- each of a text
abbrev stored : List ℕ → ℕ → List ℕ → List ℕ
stored xs at [] = xs
stored xs at (v ∷ text) = stored (set xs at v) (at + 1) text

stored_lem : (xs : List ℕ) (at : ℕ) (text : List ℕ) → at + length text ≤ length xs → stored xs at text ≡ placed xs at text
stored_lem xs at [] h = sym (placed_nothing xs at)
stored_lem xs at (v ∷ text) h =
    let l = length-set xs at v in
    stored_lem (set xs at v) (at + 1) text (omega arith)
    ∙ ap (λ (ys : List ℕ). placed ys (at + 1) text) (one_stored xs at v (omega arith))
    ∙ placed_twice xs at (v ∷ []) text (omega arith)

-- six, as the code stores a row's
pub six_stored : (xs : List ℕ) (at a b c d e f : ℕ) → at + 6 ≤ length xs
    → set (set (set (set (set (set xs at a) (at + 1) b) (at + 2) c) (at + 3) d) (at + 4) e) (at + 5) f ≡ placed xs at (a ∷ b ∷ c ∷ d ∷ e ∷ f ∷ [])
six_stored xs at a b c d e f h =
    let two : at + 2 ≡ at + 1 + 1 = omega arith in
    let three : at + 3 ≡ at + 1 + 1 + 1 = omega arith in
    let four : at + 4 ≡ at + 1 + 1 + 1 + 1 = omega arith in
    let five : at + 5 ≡ at + 1 + 1 + 1 + 1 + 1 = omega arith in
    (λ i. set (set (set (set (set (set xs at a) (at + 1) b) (two i) c) (three i) d) (four i) e) (five i) f)
    ∙ stored_lem xs at (a ∷ b ∷ c ∷ d ∷ e ∷ f ∷ []) h
