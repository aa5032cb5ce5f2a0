-- The first place of a byte, by what is known of the places before it. Assumes nothing.
use Rattle.std.proofs.Common.{◌≡◌, ℕ, zero, suc, ◌+◌, ◌-◌, ◌≤◌, ◌<◌, Bool, true, false, List, [], ◌∷◌, Option, None, Some, MatchOption, length, get_or, take, drop, eqb, refl, sym, ap, ◌∙◌, arith, length-take, length-drop}
use Rattle.std.specs.Option.{IsSomeAnd}
use Rattle.memchr.specs.Find.{IsFirstByte, is_byte}
use Rattle.std.proofs.lemmas.List.{drop-take}
use Rattle.scan.specs.Bytes.{index_after, index_of, slice}

not_true : (t : Bool) → (t ≡ true → ⊥) → t ≡ false
not_true true h = absurd (h refl)
not_true false h = refl

module _ (b : ℕ) where
  pub found_at : (xs : List ℕ) (k : ℕ) → k < length xs → ((j : ℕ) → j < k → eqb (get_or xs j 0) b ≡ true → ⊥) → eqb (get_or xs k 0) b ≡ true
      → k ≡ index_of b xs
  unfolding index_of index_after
  found_at [] k h f e = absurd (omega arith)
  found_at (x ∷ xs) zero h f e = rw e
  found_at (x ∷ xs) (suc k) h f e =
      rw (not_true (eqb x b) (f 0 (omega arith))) (ap suc (found_at xs k (omega arith) (λ j l. f (suc j) (omega arith)) e))

  pub found_nowhere : (xs : List ℕ) → ((j : ℕ) → j < length xs → eqb (get_or xs j 0) b ≡ true → ⊥) → length xs ≡ index_of b xs
  unfolding index_of index_after
  found_nowhere [] f = refl
  found_nowhere (x ∷ xs) f =
      rw (not_true (eqb x b) (f 0 (omega arith))) (ap suc (found_nowhere xs (λ j l. f (suc j) (omega arith))))

-- a place in the part, and the place in all of it
sliced : (from to : ℕ) (bytes : List ℕ) → from ≤ to → slice from to bytes ≡ take (to - from) (drop from bytes)
unfolding slice
sliced from to bytes l = let e : from + (to - from) ≡ to = omega arith in ap (λ k. drop from (take k bytes)) (sym e) ∙ drop-take from (to - from) bytes

module _ (b from to : ℕ) (bytes : List ℕ) where
  abbrev pub Placed : Option ℕ → Type 0
  Placed s = MatchOption s (index_of b (slice from to bytes) ≡ to - from) (λ k. k ≡ from + index_of b (slice from to bytes))

  pub place_of_first : (r s : Option ℕ) → from ≤ to → to ≤ length bytes → IsFirstByte (is_byte b) (take (to - from) (drop from bytes)) r
      → MatchOption r (s ≡ None) (λ x. IsSomeAnd s (λ k. k ≡ from + x)) → Placed s
  place_of_first None s l m h e =
      let xs : List ℕ = take (to - from) (drop from bytes) in
      let n : length xs ≡ index_of b xs = found_nowhere b xs (λ j l. h j (omega arith) l) in
      let size : length xs ≡ to - from = simp (length-take, length-drop) (omega arith) in
      rw (e, sliced from to bytes l) (sym n ∙ size)
  place_of_first (Some x) None l m h e = absurd e
  place_of_first (Some x) (Some k) l m h e =
      rw (sliced from to bytes l)
      (e ∙ ap (λ (n : ℕ). from + n) (found_at b (take (to - from) (drop from bytes)) x h.0.high (λ j l. h.0.before j (omega arith) l) h.1))
