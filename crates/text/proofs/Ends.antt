-- Where no newline is left: the part line of a block, and the input's end. Assumes nothing.
use mathlib.Core.Path.{◌≡◌, refl, sym, ap, ◌∙◌}
use mathlib.Core.Bool.{Bool, true, false, cond, ◌&&◌}
use mathlib.Core.List.{List, [], ◌∷◌, ◌++◌, append-nil}
use Prim.Native.Nat.{ℕ, ◌-◌, ◌≤◌, ◌<◌}
use native.Mathlib.Omega.{arith}
use lib.Dec.{eqb, leb, ltb, eqb-suc-zero}
use lib.ListN.{length, drop, length-drop}
use borrow.Author.Tests.{le-leb, lt-leb}
use Rattle.answer.specs.Answer.{refused_word, refused_line}
use Rattle.text.specs.Run.{is_empty, at_end}
use Rattle.text.specs.Block.{block, stopped, behind, block_from}

-- ---- the part line

module _ (input : List ℕ) (number at : ℕ) (out : List ℕ) where
  pub part_refused : 82 ≤ length input - at → (exit : List ℕ) → exit ≡ out ++ refused_line 8 number
      → block exit [] number true ≡ behind out (block_from number (drop at input) [])
  unfolding block_from
  part_refused r exit is =
      let long : leb 82 (length (drop at input)) ≡ true = le-leb 82 (length (drop at input)) (omega (arith, length-drop at input)) in
      ap (λ (w : List ℕ). block w [] number true) is
      ∙ ap (λ (t : Bool). behind out (cond t (stopped 8 number) (block [] (drop at input) number false))) (sym long)

  pub part_left : length input - at < 82 → block out (drop at input) number false ≡ behind out (block_from number (drop at input) [])
  unfolding block_from
  part_left h =
      let short : leb 82 (length (drop at input)) ≡ false = lt-leb 82 (length (drop at input)) (omega (arith, length-drop at input)) in
      ap (λ (w : List ℕ). block w (drop at input) number false) (sym (append-nil out))
      ∙ ap (λ (t : Bool). behind out (cond t (stopped 8 number) (block [] (drop at input) number false))) (sym short)

-- ---- the input's end

none_is_empty : (part : List ℕ) → eqb (length part) 0 ≡ is_empty part
none_is_empty [] = refl
none_is_empty (b ∷ bs) = eqb-suc-zero (length bs)

at_end_lem : (part : List ℕ) (number : ℕ) (t : Bool) → (eqb (length part) 0 && ltb 1 number) ≡ t → at_end number part ≡ cond t [] (refused_line 8 number)
unfolding at_end
at_end_lem part number t e =
    ap (λ (u : Bool). cond u [] (refused_line 8 number)) (ap (λ (u : Bool). u && ltb 1 number) (sym (none_is_empty part)) ∙ e)

module _ (part : List ℕ) (number : ℕ) where
  pub ends_whole : (empty : Bool) → empty ≡ eqb (length part) 0 → (empty && ltb 1 number) ≡ true → at_end number part ≡ []
  ends_whole empty e h = at_end_lem part number true (ap (λ (u : Bool). u && ltb 1 number) (sym e) ∙ h)

  pub ends_refused : (empty : Bool) → empty ≡ eqb (length part) 0 → (empty && ltb 1 number) ≡ false → at_end number part ≡ refused_line 8 number
  ends_refused empty e h = at_end_lem part number false (ap (λ (u : Bool). u && ltb 1 number) (sym e) ∙ h)

pub refused_some : (why number : ℕ) → 1 ≤ length (refused_line why number)
unfolding refused_line refused_word
refused_some why number = omega arith
