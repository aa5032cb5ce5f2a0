-- The loop over the lines of a block: how it begins, one line, and its ways out. Assumes nothing.
use mathlib.Core.Path.{◌≡◌, refl, sym, ap, ◌∙◌}
use mathlib.Core.Bool.{true, false}
use mathlib.Core.List.{List, [], ◌++◌, append_assoc}
use Prim.Native.Nat.{ℕ, suc, ◌+◌, ◌-◌, ◌*◌, ◌≤◌, ◌<◌}
use native.Mathlib.Numerals.{add-one}
use native.Mathlib.Omega.{arith}
use lib.Dec.{leb}
use lib.ListN.{length, take, drop, length-drop}
use lib.Seq.{length-take-le, take-length, drop-drop}
use borrow.Author.Tests.{leb-true, leb-false}
use borrow.Table.Steps.{cases}
use Rattle.std.specs.declared.ops.ControlFlow.TheVariants.{Continue, Break}
use Rattle.scan.specs.Bytes.{slice, index_of}
use Rattle.answer.specs.Room.{names_more}
use Rattle.answer.specs.Answer.{Reply, answer, refusal, reply_to, printed, ends, flow}
use Rattle.text.specs.Block.{Block, block, behind, after, block_from, block_of}
use Rattle.text.proofs.Lines.{Plain, next_line, part_line}

behind_twice : (s t : List ℕ) (x : Block) → behind s (behind t x) ≡ behind (s ++ t) x
behind_twice s t x = ap (λ (w : List ℕ). block w x.left x.number x.over) (sym (append_assoc s t x.written))

goes_on : (r : Reply) (n : ℕ) (x : Block) → ends r ≡ false → after r n x ≡ behind (printed n r) x
unfolding printed
goes_on (answer text) n x e = refl
goes_on (refusal why) n x e = cc

goes_not : (r : Reply) (n : ℕ) (x : Block) → ends r ≡ true → after r n x ≡ block (printed n r) [] n true
unfolding printed
goes_not (answer text) n x e = cc
goes_not (refusal why) n x e = refl

broke : (r : Reply) (n line : ℕ) → flow n r ≡ Break line → (ends r ≡ true) × (line ≡ n)
broke (answer text) n line e = absurd (cc)
broke (refusal why) n line e = (refl, cc)

pub went_on : (r : Reply) (n : ℕ) (u : Unit {0}) → flow n r ≡ Continue u → ends r ≡ false
went_on (answer text) n u e = refl
went_on (refusal why) n u e = absurd (cc)

-- where line n begins at `at`: `entry` was there at first, and `out` is now
pub record Answering (input : List ℕ) (number : ℕ) (entry out : List ℕ) (at n : ℕ) : Type 0 where
  pub inside : at ≤ length input
  -- the output's names are longer than the input's
  pub fits : length out + 16 * (2 - n) ≤ length entry + at + 32
  pub counted : n ≤ number + at
  pub so_far : behind entry (block_of number input) ≡ behind out (block_of n (drop at input))

-- what `find` finds in the rest of the input
to_the_end : (input : List ℕ) (at : ℕ) → slice at (length input) input ≡ drop at input
unfolding slice
to_the_end input at = ap (drop at) (take-length input)

pub begins : (input : List ℕ) (number : ℕ) (out : List ℕ) → Answering input number out out 0 number
begins input number out = record {
  inside = omega arith;
  fits = omega arith;
  counted = omega arith;
  so_far = refl;
}

module _ (input : List ℕ) (number : ℕ) (entry out : List ℕ) (at n : ℕ) (was : Answering input number entry out at n) where
  -- the loop's end: no newline is left
  pub last : index_of 10 (slice at (length input) input) ≡ length input - at → (x : Block) → x ≡ behind out (block_from n (drop at input) [])
      → x ≡ behind entry (block_of number input)
  last h x e =
      let plain : Plain (drop at input) = sym (ap (index_of 10) (to_the_end input at)) ∙ h ∙ sym (length-drop at input) in
      e ∙ ap (behind out) (sym (part_line n (drop at input) plain)) ∙ sym was.so_far

  module _ (end : ℕ) (at_newline : end ≡ at + index_of 10 (slice at (length input) input)) (more : end < length input)
      (line : List ℕ) (cut : line ≡ take (end - at) (drop at input)) (exit : List ℕ) (is : exit ≡ out ++ printed n (reply_to n line)) where
    found : end ≡ at + index_of 10 (drop at input)
    found = at_newline ∙ ap (λ (l : List ℕ). at + index_of 10 l) (to_the_end input at)

    rest_of : block_of n (drop at input) ≡ after (reply_to n line) n (block_of (n + 1) (drop (end + 1) input))
    rest_of =
        let k : ℕ = index_of 10 (drop at input) in
        let f : end ≡ at + k = found in
        let to : k ≡ end - at = omega arith in
        let on : at + suc k ≡ end + 1 = omega arith in
        next_line n (drop at input) (omega (arith, length-drop at input))
        ∙ ap (λ (l : List ℕ). after (reply_to n l) n (block_of (suc n) (drop (suc k) (drop at input)))) (ap (λ (j : ℕ). take j (drop at input)) to ∙ sym cut)
        ∙ ap (λ (l : List ℕ). after (reply_to n line) n (block_of (suc n) l)) (drop-drop (suc k) at input ∙ ap (λ (j : ℕ). drop j input) on)
        ∙ ap (λ (m : ℕ). after (reply_to n line) n (block_of m (drop (end + 1) input))) (sym (add-one n))

    pub stops : (last : ℕ) → flow n (reply_to n line) ≡ Break last → block exit [] last true ≡ behind entry (block_of number input)
    stops last f =
        let e = (broke (reply_to n line) n last f).0 in
        (λ i. block (is i) [] ((broke (reply_to n line) n last f).1 i) true)
        ∙ ap (behind out) (sym (rest_of ∙ goes_not (reply_to n line) n (block_of (n + 1) (drop (end + 1) input)) e))
        ∙ sym was.so_far

    -- a line was answered
    pub turn : (length exit ≤ length out + length line + names_more) × (1 < n → length exit ≤ length out + length line) → ends (reply_to n line) ≡ false
        → Answering input number entry exit (end + 1) (n + 1)
    turn short e =
        let x : Block = block_of (n + 1) (drop (end + 1) input) in
        let f = found in
        let b = was.inside in
        let g = was.fits in
        let k = was.counted in
        let cut_length : length line ≤ end - at = omega (arith, ap length cut, length-take-le (end - at) (drop at input) (omega (arith, length-drop at input))) in
        record {
          inside = omega arith;
          fits = cases (leb n 1) (λ first. let h = leb-true n 1 first in let names = short.0 in omega arith) (λ later. let h = short.1 (leb-false n 1 later) in omega arith);
          counted = omega arith;
          so_far =
              was.so_far
              ∙ ap (behind out) (rest_of ∙ goes_on (reply_to n line) n x e)
              ∙ behind_twice out (printed n (reply_to n line)) x
              ∙ ap (λ (w : List ℕ). behind w x) (sym is);
        }
