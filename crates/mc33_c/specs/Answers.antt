-- The answers of the C interface as numbers, from what the routines' own promises say. Definitions only.
use Rattle.std.specs.Prelude.{ℕ, Float}
use Rattle.binary32.specs.Numbers.{plus_zero}
use Rattle.cube.specs.Bits.{bit_of}
use Rattle.face.specs.Face as Face
use Rattle.trust.specs.declared.Trust.{Trust}
use Rattle.trust.specs.declared.Trust.TheVariants.{Sure, Turned, Unknown}
use Rattle.trust.specs.Trust as Trusts
use Rattle.edge.specs.Edge.{Told, rising, beyond, crossed, blank}
use Rattle.edge.specs.Edge as Edge
use Rattle.notes.specs.declared.Notes.{Notes}
use Rattle.tilings.specs.Plan.{Chosen, empty, no_tiling, tiling, Reached}
use Rattle.choice.specs.Choice.{Said, made, refused}
use Rattle.rows.specs.Rows.{Result, done, refused_at}
use Rattle.mc33_c.specs.declared.Mc33Choice.{Mc33Choice}
use Rattle.mc33_c.specs.declared.Mc33Face.{Mc33Face}
use Rattle.mc33_c.specs.declared.Mc33Trust.{Mc33Trust}
use Rattle.mc33_c.specs.declared.Mc33Edge.{Mc33Edge}
use Rattle.mc33_c.specs.declared.Mc33Outcome.{Mc33Outcome}

abbrev pub answered : ℕ → ℕ → ℕ → ℕ → Notes → Mc33Choice
answered code row column centre m =
    record { refusal = 0; code = code; row = row; column = column; centre = centre; unsettled = m.unsettled; unmatched = m.unmatched; readings = m.readings }

-- document 01, 'Program': the fields of a tiling; empty is zeros; no tiling is 255, configuration, sub-configuration, 0; then what was counted
abbrev numbers_by : Chosen → Notes → Mc33Choice
numbers_by empty m = answered 0 0 0 0 m
numbers_by (no_tiling c sub) m = answered 255 c sub 0 m
numbers_by (tiling code row column centre) m = answered code row column (bit_of centre) m

unfoldable pub reached_numbers : Reached → Mc33Choice
reached_numbers r = numbers_by r.choice r.notes

unfoldable pub choice_numbers : Said → Mc33Choice
choice_numbers (made r) = reached_numbers r
choice_numbers (refused n) = record { refusal = n; code = 0; row = 0; column = 0; centre = 0; unsettled = 0; unmatched = 0; readings = 0 }

unfoldable pub face_numbers : Face.Said → Mc33Face
face_numbers (Face.answer b) = record { refusal = 0; answer = bit_of b }
face_numbers (Face.refused n) = record { refusal = n; answer = 0 }

-- 1 sure, 2 turned, 3 unknown
unfoldable pub trust_number : Trust → ℕ
trust_number Sure = 1
trust_number Turned = 2
trust_number Unknown = 3

unfoldable pub trust_numbers : Trusts.Said → Mc33Trust
trust_numbers (Trusts.told b t) = record { refusal = 0; answer = bit_of b; trust = trust_number t }
trust_numbers (Trusts.refused n) = record { refusal = n; answer = 0; trust = 0 }

abbrev pub read_as : ℕ → Float → Float → Mc33Edge
read_as kind t p = record { refusal = 0; kind = kind; t = t; product = p }

-- 1 rising, 2 beyond, 3 crossed, 4 blank
unfoldable pub reading_numbers : Told Float → Mc33Edge
reading_numbers rising = read_as 1 plus_zero plus_zero
reading_numbers (beyond t) = read_as 2 t plus_zero
reading_numbers (crossed t p) = read_as 3 t p
reading_numbers blank = read_as 4 plus_zero plus_zero

unfoldable pub edge_numbers : Edge.Said → Mc33Edge
edge_numbers (Edge.reading r) = reading_numbers r
edge_numbers (Edge.refused n) = record { refusal = n; kind = 0; t = plus_zero; product = plus_zero }

-- the refusal and its place, 0 and 0 where the list is done
unfoldable pub outcome_numbers : Result → Mc33Outcome
outcome_numbers done = record { refusal = 0; place = 0 }
outcome_numbers (refused_at n i) = record { refusal = n; place = i }
