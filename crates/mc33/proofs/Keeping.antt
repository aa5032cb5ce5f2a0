-- What is kept is what the block left: its bytes, at most 81, moved to the front; and what was put is what it wrote. Assumes nothing.
use mathlib.Core.Path.{◌≡◌, refl, sym, ap, ◌∙◌, subst}
use mathlib.Core.List.{List, []}
use Prim.Native.Nat.{ℕ, ◌-◌, ◌≤◌}
use native.Mathlib.Omega.{arith}
use lib.ListN.{length, take, drop, length-drop}
use lib.Seq.{length-take-le}
use Rattle.std.specs.Prelude.{Some, Ok}
use Rattle.std.specs.declared.ops.ControlFlow.{ControlFlow}
use Rattle.std.specs.declared.ops.ControlFlow.TheVariants.{Continue, Break}
use Rattle.put.specs.Placed.{placed}
use Rattle.put.proofs.Placed.{placed_front}
use Rattle.line.proofs.Cuts.{drop_take}
use Rattle.text.specs.declared.PartLine.{PartLine}
use Rattle.text.specs.Block.{Block, behind, block_of}
use Rattle.text.specs.Left.{block_by}
use Rattle.text.proofs.Joins.{left_short}
use Rattle.mc33.specs.declared.part.Part.{Part}
use Rattle.mc33.specs.Kept.{Kept}

written_by : (out input : List ℕ) (done : ControlFlow ℕ PartLine) → (block_by out input done).written ≡ out
written_by out input (Continue part) = refl
written_by out input (Break line) = refl

-- the first n bytes came, and nothing was put before what their block comes to
module _ (xs out before : List ℕ) (first n : ℕ) (done : ControlFlow ℕ PartLine) (z : before ≡ [])
    (e : block_by out (take n xs) done ≡ behind before (block_of first (take n xs))) where
  whole : block_by out (take n xs) done ≡ block_of first (take n xs)
  whole = subst (λ (w : List ℕ). block_by out (take n xs) done ≡ behind w (block_of first (take n xs))) z e

  pub text : out ≡ (block_of first (take n xs)).written
  text = sym (written_by out (take n xs) done) ∙ ap (λ (x : Block). x.written) whole

  module _ (part : PartLine) (d : done ≡ Continue part) (h : part.left ≤ length (take n xs)) (l : n ≤ length xs) where
    left : block_by out (take n xs) (Continue part) ≡ block_of first (take n xs)
    left = subst (λ (c : ControlFlow ℕ PartLine). block_by out (take n xs) c ≡ block_of first (take n xs)) d whole

    pub short : n - part.left ≤ 81
    short = omega (arith, ap (λ (x : Block). length x.left) left, left_short first (take n xs), length-drop part.left (take n xs), length-take-le n xs l)

    pub kept : (s : Part) (ys : List ℕ) → s.number ≡ part.number → s.have ≡ n - part.left → ys ≡ placed xs 0 (take (n - part.left) (drop part.left xs))
        → Kept (Ok (Some s)) ys out (block_of first (take n xs))
    kept s ys k a b = record {
      text = text;
      left = (
        sym (ap (λ (x : Block). x.over) left),
        (
          ap (λ (m : ℕ). take m ys) a
              ∙ ap (take (n - part.left)) b
              ∙ placed_front xs (take (n - part.left) (drop part.left xs)) (n - part.left) (length-take-le (n - part.left) (drop part.left xs) (omega (arith, length-drop part.left xs)))
              ∙ sym (drop_take part.left n xs)
              ∙ ap (λ (x : Block). x.left) left,
          k ∙ ap (λ (x : Block). x.number) left,
        ),
      );
    }
