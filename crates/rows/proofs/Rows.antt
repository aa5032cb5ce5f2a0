-- Rows: a choice's row, and what the rows promise of document 01's, of empty and of no tiling. Assumes nothing.
use mathlib.Core.Path.{◌≡◌, refl, sym, ap, ◌∙◌}
use mathlib.Core.Bool.{Bool}
use mathlib.Core.List.{[], ◌∷◌}
use Prim.Native.Nat.{ℕ, ◌+◌, ◌*◌}
use lib.ListN.{length, take}
use mir.Val.{bool_byte}
use Rattle.cube.proofs.Bounds.{bit_bound}
use Rattle.notes.specs.declared.Notes.{Notes}
use Rattle.tilings.specs.declared.Choice.{Choice}
use Rattle.tilings.specs.declared.Choice.TheVariants.{Tiled}
use Rattle.tilings.specs.Plan.{Chosen, empty, no_tiling, tiling, Reached, reach}
use Rattle.tilings.specs.Answers.{chosen}
use Rattle.choice.proofs.Ranges.{empty_counts, untiled_counts}
use Rattle.rows.specs.Rows.{width, bytes_of}
use Rattle.rows.specs.OldRows.{old_bytes_by, OldRows, BareRows}
use Rattle.rows.specs.declared.Row.{Row}
use Rattle.rows.specs.Results.{bytes_in, filled}

-- ---- a choice's row
module _ (m : Notes) where
  pub row_as : (r s : Row) → r ≡ s → (x y : Choice) → x ≡ y → bytes_in s ≡ bytes_of (reach (chosen y) m) → bytes_in r ≡ bytes_of (reach (chosen x) m)
  row_as r s e x y f g = ap bytes_in e ∙ g ∙ ap (λ (x : Choice). bytes_of (reach (chosen x) m)) (sym f)

  pub row_tiled : (r : Row) (code row column : ℕ) (centre : Bool) (x : Choice) → x ≡ Tiled code row column centre
      → r ≡ filled code row column (bool_byte centre + 2 * m.unsettled) m → bytes_in r ≡ bytes_of (reach (chosen x) m)
  unfolding bytes_of
  row_tiled r code row column centre x f e =
      row_as r (filled code row column (bool_byte centre + 2 * m.unsettled) m) e x (Tiled code row column centre) f
      (ap (λ (n : ℕ). code ∷ row ∷ column ∷ (n + 2 * m.unsettled) ∷ m.unmatched ∷ m.readings ∷ []) (bit_bound centre).1)

by_choice : (P : Chosen → Type 0) → P empty → ((c sub : ℕ) → P (no_tiling c sub)) → ((code row column : ℕ) (centre : Bool) → P (tiling code row column centre)) → (x : Chosen) → P x
by_choice P e u t empty = e
by_choice P e u t (no_tiling c sub) = u c sub
by_choice P e u t (tiling code row column centre) = t code row column centre

pub bytes_length : (r : Reached) → length (bytes_of r) ≡ width
unfolding bytes_of
bytes_length r = by_choice (λ x. length (bytes_of (reach x r.notes)) ≡ width) refl (λ c sub. refl) (λ code row column centre. refl) r.choice

pub old_rows : OldRows
unfolding bytes_of
old_rows r =
    by_choice (λ x. take 4 (bytes_of (reach x r.notes)) ≡ old_bytes_by x r.notes.unsettled) refl (λ c sub. refl) (λ code row column centre. refl) r.choice

pub bare_rows : BareRows
unfolding bytes_of
bare_rows = record {
  empties = λ case m h. ap (λ (k : Notes). bytes_of (reach empty k)) (empty_counts case m h);
  untiled = λ case c sub m h. ap (λ (k : Notes). bytes_of (reach (no_tiling c sub) k)) (untiled_counts case m c sub h);
}
