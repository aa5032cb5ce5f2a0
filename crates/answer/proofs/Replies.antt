-- What is put for a reply, and whether it is the end. Assumes nothing.
use mathlib.Core.Path.{◌≡◌, ap}
use mathlib.Core.Bool.{Bool}
use Prim.Native.Nat.{ℕ}
use mir.Val.{bool_byte}
use Rattle.cube.specs.declared.Refusal.{Refusal}
use Rattle.cube.specs.Refusals.{refusal_number}
use Rattle.cube.proofs.Bounds.{bit_bound}
use Rattle.notes.specs.declared.Notes.{Notes}
use Rattle.tilings.specs.declared.Choice.{Choice}
use Rattle.tilings.specs.declared.Choice.TheVariants.{Empty, Untiled, Tiled}
use Rattle.tilings.specs.declared.Counted.{Counted}
use Rattle.tilings.specs.Plan.{empty, no_tiling, reach}
use Rattle.tilings.specs.Answers.{chosen, reached}
use Rattle.std.specs.Prelude.{Result, Ok, Err}
use Rattle.choice.specs.Choice.{said}
use Rattle.choice.proofs.Ranges.{empty_counts, untiled_counts}
use Rattle.answer.specs.Answer.{answer, refusal, fields, numbers, choice_line, BareLines, choice_reply}

-- the line of a choice
module _ (m : Notes) (r : Choice) where
  pub empty_line : r ≡ Empty → choice_line (reach (chosen r) m) ≡ fields (numbers 0 0 0 0 m)
  unfolding choice_line
  empty_line e = rw e

  pub untiled_line : (c sub : ℕ) → r ≡ Untiled c sub → choice_line (reach (chosen r) m) ≡ fields (numbers 255 c sub 0 m)
  unfolding choice_line
  untiled_line c sub e = rw e

  pub tiled_line : (code row column : ℕ) (centre : Bool) → r ≡ Tiled code row column centre
      → choice_line (reach (chosen r) m) ≡ fields (numbers code row column (bool_byte centre) m)
  unfolding choice_line
  tiled_line code row column centre e = rw (e, (bit_bound centre).1)

pub bare_lines : BareLines
unfolding choice_line
bare_lines = record {
  empties = λ case m h. ap (λ (k : Notes). choice_line (reach empty k)) (empty_counts case m h);
  untiled = λ case c sub m h. ap (λ (k : Notes). choice_line (reach (no_tiling c sub) k)) (untiled_counts case m c sub h);
}

-- the reply of an answer
pub made_reply : (a : Result Counted Refusal) (r : Counted) → a ≡ Ok r → choice_reply (said a) ≡ answer (choice_line (reached r))
unfolding choice_reply
made_reply a r e = rw e

pub refused_reply : (a : Result Counted Refusal) (why : Refusal) → a ≡ Err why → choice_reply (said a) ≡ refusal (refusal_number why)
unfolding choice_reply
refused_reply a why e = rw e
