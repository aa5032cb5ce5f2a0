-- The reply to a line of the input, by the tests as they are made. Assumes nothing.
use mathlib.Core.Path.{◌≡◌, sym, ap, ◌∙◌}
use mathlib.Core.Bool.{Bool, true, false}
use mathlib.Core.List.{List}
use Prim.Native.Nat.{ℕ, ◌≤◌, ◌<◌}
use native.Mathlib.Nat.{lt_of_not-le}
use native.Mathlib.Omega.{arith}
use lib.IntN.{ℤ}
use lib.ListN.{length}
use borrow.Author.Tests.{le-leb, lt-leb}
use Rattle.std.specs.Prelude.{Option, None, Some, Result}
use Rattle.cube.specs.declared.Refusal.{Refusal}
use Rattle.tilings.specs.declared.Counted.{Counted}
use Rattle.choice.specs.Choice.{answer_of, said}
use Rattle.line.specs.declared.Line.{Line}
use Rattle.line.specs.Line.{parsed, parse_line}
use Rattle.line.proofs.Lengths.{short}
use Rattle.answer.specs.Answer.{Reply, answer, refusal, same, input_names, output_names, choice_reply, cube_reply, reply_to}
use Rattle.answer.proofs.Same.{equal_lengths}

module _ (number : ℕ) (line : List ℕ) where
  module _ (first : number ≤ 1) (named : Bool) (e : named ≡ same line input_names) where
    pub names_reply : named ≡ true → reply_to number line ≡ answer output_names
    unfolding reply_to
    names_reply t = rw (le-leb number 1 first, sym e, t)

    pub no_names_reply : named ≡ false → reply_to number line ≡ refusal 8
    unfolding reply_to
    no_names_reply t = rw (le-leb number 1 first, sym e, t)

  pub names_length : (named : Bool) → named ≡ same line input_names → named ≡ true → length line ≡ 35
  unfolding input_names
  names_length named e t = equal_lengths line input_names (sym e ∙ t)

  pub later_reply : 1 < number → (r : Reply) → r ≡ cube_reply (parse_line line) → reply_to number line ≡ r
  unfolding reply_to
  later_reply later r e = rw (lt-leb number 1 later) (sym e)

-- what a line is parsed to
module _ (line : List ℕ) (l : Option Line) (e : parsed l ≡ parse_line line) where
  pub malformed_reply : l ≡ None → refusal 8 ≡ cube_reply (parse_line line)
  unfolding cube_reply
  malformed_reply m = rw (sym e, m)

  module _ (m : Line) (g : l ≡ Some m) where
    pub made_cube : (y z : ℤ) → y ≡ m.case → z ≡ m.configuration → (r : Result Counted Refusal) → said r ≡ answer_of y z m.cube → choice_reply (said r) ≡ cube_reply (parse_line line)
    unfolding cube_reply
    made_cube y z f h r s = rw (sym e, g, s, f, h)

    pub given_length : 74 < length line
    given_length =
        lt_of_not-le λ (h : length line ≤ 74).
        let s = short line (omega arith) in
        let p = sym e ∙ ap parsed g in
        let z : ◌≡◌ {A = ℕ} 0 1 = cc in
        omega arith
