-- A list cut at its first b; a line cut at its first space and before its last 72 bytes, as the code cuts it. Assumes nothing.
use mathlib.Core.Path.{◌≡◌, refl, sym, ap, ◌∙◌}
use mathlib.Core.Bool.{Bool, true, false}
use mathlib.Core.List.{List, [], ◌∷◌, ◌++◌}
use Prim.Native.Nat.{ℕ, zero, suc, ◌+◌, ◌-◌, ◌<◌}
use native.Mathlib.Nat.{zero-add, le_of_suc-le-suc, not-suc-le-zero}
use native.Mathlib.Omega.{arith}
use native.Mathlib.Numerals.{add-one}
use lib.Dec.{eqb}
use lib.ListN.{length, take, drop, length-take, length-drop, drop_of_length-le}
use lib.Seq.{take_all, take-take, take-nil}
use borrow.Author.Tests.{eqb-true}
use Rattle.scan.specs.Bytes.{index_of, index_after, slice}
use lib.IntN.{ℤ}
use Rattle.std.proofs.Common.{Option, Some, None}
use Rattle.line.specs.Number.{signed_of}
use Rattle.cube.specs.declared.Cube.{Cube}
use mir.Syntax.{w8}
use mir.Val.{SFits, to_z, of_z}
use mir.ValLaws.{to_z-of_z}
use Rattle.line.specs.Line.{Parsed, given, malformed, have_corners, cube_in, line_from, parse_line}
use Rattle.line.proofs.Decimals.{nothing}

pub drop_take : (m n : ℕ) (l : List ℕ) → drop m (take n l) ≡ take (n - m) (drop m l)
drop_take zero n l = let e : n - 0 ≡ n = omega arith in ap (λ k. take k l) (sym e)
drop_take (suc m) n [] = rw (take-nil n) (sym (take-nil (n - suc m)))
drop_take (suc m) zero (x ∷ l) = let e : 0 - suc m ≡ 0 = omega arith in ap (λ k. take k (drop m l)) (sym e)
drop_take (suc m) (suc n) (x ∷ l) = let e : suc n - suc m ≡ n - m = omega arith in rw e (drop_take m n l)

-- the first b cuts a list
module _ (b : ℕ) where
  abbrev Cut : ℕ → List ℕ → Type 0
  Cut k xs = xs ≡ take k xs ++ b ∷ drop (suc k) xs

  cut_after : (t : Bool) (x k : ℕ) (xs : List ℕ) → eqb x b ≡ t → index_after t k < suc (length xs) → (k < length xs → Cut k xs) → Cut (index_after t k) (x ∷ xs)
  unfolding index_after
  cut_after true x k xs e h ih = ap (λ (y : ℕ). y ∷ xs) (eqb-true x b e)
  cut_after false x k xs e h ih = ap (λ (ys : List ℕ). x ∷ ys) (ih (le_of_suc-le-suc h))

  pub cut_at : (xs : List ℕ) → index_of b xs < length xs → Cut (index_of b xs) xs
  unfolding index_of
  cut_at [] h = absurd (not-suc-le-zero h)
  cut_at (x ∷ xs) h = cut_after (eqb x b) x (index_of b xs) xs refl h (cut_at xs)

no_second : (case : Option ℤ) (tail : List ℕ) → line_from case None tail ≡ malformed
unfolding line_from
no_second (Some x) tail = refl
no_second None tail = refl

no_first : (configuration : Option ℤ) (tail : List ℕ) → line_from None configuration tail ≡ malformed
unfolding line_from
no_first configuration tail = refl

module _ (line : List ℕ) where
  -- the line cut at n, and before that at k
  abbrev pub cut : ℕ → ℕ → Parsed
  cut n k = line_from (signed_of (take k (take n line))) (signed_of (drop (suc k) (take n line))) (drop n line)

  pub is_cut : parse_line line ≡ cut (length line - 72) (index_of 32 (take (length line - 72) line))
  unfolding parse_line
  is_cut = refl

  pub first_broken : (n k : ℕ) → signed_of (take k (take n line)) ≡ None → cut n k ≡ malformed
  first_broken n k e = rw e (no_first (signed_of (drop (suc k) (take n line))) (drop n line))

  pub second_broken : (n k : ℕ) → signed_of (drop (suc k) (take n line)) ≡ None → cut n k ≡ malformed
  second_broken n k e = rw e (no_second (signed_of (take k (take n line))) (drop n line))

  pub without_head : length line < 72 → malformed ≡ parse_line line
  without_head h =
      let e : length line - 72 ≡ 0 = omega arith in
      let empty : signed_of (take (index_of 32 []) []) ≡ None = ap signed_of (take-nil (index_of 32 [])) ∙ sym (nothing [] refl) in
      sym (is_cut ∙ ap (λ n. cut n (index_of 32 (take n line))) e ∙ first_broken 0 (index_of 32 []) empty)

  -- cut as the code cuts it: n bytes before the corners, and the first space at k
  module _ (n : ℕ) (is_n : n ≡ length line - 72) where
    pub without_space : index_of 32 (slice 0 n line) ≡ n - 0 → malformed ≡ parse_line line
    unfolding slice
    without_space e =
        let k = index_of 32 (take n line) in
        let none : drop (suc k) (take n line) ≡ [] = drop_of_length-le (take n line) {i = suc k} (omega (arith, length-take n line)) in
        let here : parse_line line ≡ cut n k = is_cut ∙ ap (λ m. cut m (index_of 32 (take m line))) (sym is_n) in
        sym (here ∙ second_broken n k (ap signed_of none ∙ sym (nothing [] refl)))

    module _ (k : ℕ) (found : k ≡ 0 + index_of 32 (slice 0 n line)) (inside : k < n) where
      at_space : parse_line line ≡ cut n k
      unfolding slice
      at_space =
          is_cut ∙ ap (λ m. cut m (index_of 32 (take m line))) (sym is_n)
          ∙ ap (cut n) (sym (found ∙ zero-add (index_of 32 (take n line))))

      pub by_parts : {case configuration : Option ℤ} {tail : List ℕ}
          → case ≡ signed_of (take k line) → configuration ≡ signed_of (take (n - (k + 1)) (drop (k + 1) line))
          → tail ≡ take (length line - n) (drop n line) → line_from case configuration tail ≡ parse_line line
      by_parts {case} {configuration} {tail} d e t =
          let a : take k (take n line) ≡ take k line = take-take k n line (omega arith) in
          let b : drop (suc k) (take n line) ≡ take (n - (k + 1)) (drop (k + 1) line) = rw (← add-one k) (drop_take (k + 1) n line) in
          let g : take (length line - n) (drop n line) ≡ drop n line = take_all (length line - n) (drop n line) (omega (arith, length-drop n line)) in
          rw at_space (rw (a, b) (rw (d, e, t, g)))

      pub no_case : None ≡ signed_of (take k line) → malformed ≡ parse_line line
      no_case d = sym (no_first _ _) ∙ by_parts d refl refl

      pub no_configuration : None ≡ signed_of (take (n - (k + 1)) (drop (k + 1) line)) → malformed ≡ parse_line line
      no_configuration e = sym (no_second _ _) ∙ by_parts refl e refl

      module _ (x y : ℤ) (d : Some x ≡ signed_of (take k line)) (e : Some y ≡ signed_of (take (n - (k + 1)) (drop (k + 1) line))) where
        abbrev pub tail : List ℕ
        tail = take (length line - n) (drop n line)

        pub no_corners : have_corners tail ≡ false → malformed ≡ parse_line line
        unfolding line_from
        no_corners h = let f : line_from (Some x) (Some y) tail ≡ malformed = rw h in sym f ∙ by_parts d e refl

        pub all_parts : {q : Cube} → SFits w8 x → SFits w8 y → (have_corners tail ≡ true) × (q ≡ cube_in tail)
            → given (to_z w8 (of_z w8 x)) (to_z w8 (of_z w8 y)) q ≡ parse_line line
        unfolding line_from
        all_parts f g (h, i) =
            let j : line_from (Some x) (Some y) tail ≡ given x y (cube_in tail) = rw h in
            rw (to_z-of_z w8 x f, to_z-of_z w8 y g, i) (sym j ∙ by_parts d e refl)
