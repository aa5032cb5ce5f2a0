-- Document 01, 'Program', with the seven numbers of document 02, Change 10: the answer to one line of the input. Definitions only.
use Rattle.std.specs.Prelude.{ℕ, ◌≡◌, Bool, true, false, cond, ◌&&◌, List, [], ◌∷◌, ◌++◌, T, eqb, leb}
use Rattle.std.specs.declared.ops.ControlFlow.{ControlFlow}
use Rattle.std.specs.declared.ops.ControlFlow.TheVariants.{Continue, Break}
use Rattle.cube.specs.Bits.{bit_of}
use Rattle.notes.specs.declared.Notes.{Notes}
use Rattle.tilings.specs.Plan.{Chosen, empty, no_tiling, tiling, Reached, reach}
use Rattle.choice.specs.Choice.{Said, made, refused, answer_of}
use Rattle.choice.specs.Ranges.{in_ranges}
use Rattle.put.specs.Decimal.{decimal}
use Rattle.line.specs.Line as Line
use Rattle.line.specs.Line.{Parsed, given, parse_line}

-- case config c0 c1 c2 c3 c4 c5 c6 c7
unfoldable pub input_names : List ℕ
input_names =
    99 ∷ 97 ∷ 115 ∷ 101 ∷ 32
    ∷ 99 ∷ 111 ∷ 110 ∷ 102 ∷ 105 ∷ 103 ∷ 32
    ∷ 99 ∷ 48 ∷ 32 ∷ 99 ∷ 49 ∷ 32 ∷ 99 ∷ 50 ∷ 32 ∷ 99 ∷ 51 ∷ 32
    ∷ 99 ∷ 52 ∷ 32 ∷ 99 ∷ 53 ∷ 32 ∷ 99 ∷ 54 ∷ 32 ∷ 99 ∷ 55 ∷ []

-- code row column centre unsettled unmatched readings, and a newline
unfoldable pub output_names : List ℕ
output_names =
    99 ∷ 111 ∷ 100 ∷ 101 ∷ 32
    ∷ 114 ∷ 111 ∷ 119 ∷ 32
    ∷ 99 ∷ 111 ∷ 108 ∷ 117 ∷ 109 ∷ 110 ∷ 32
    ∷ 99 ∷ 101 ∷ 110 ∷ 116 ∷ 114 ∷ 101 ∷ 32
    ∷ 117 ∷ 110 ∷ 115 ∷ 101 ∷ 116 ∷ 116 ∷ 108 ∷ 101 ∷ 100 ∷ 32
    ∷ 117 ∷ 110 ∷ 109 ∷ 97 ∷ 116 ∷ 99 ∷ 104 ∷ 101 ∷ 100 ∷ 32
    ∷ 114 ∷ 101 ∷ 97 ∷ 100 ∷ 105 ∷ 110 ∷ 103 ∷ 115 ∷ 10 ∷ []

-- refused, and a space
unfoldable pub refused_word : List ℕ
refused_word = 114 ∷ 101 ∷ 102 ∷ 117 ∷ 115 ∷ 101 ∷ 100 ∷ 32 ∷ []

abbrev pub space : List ℕ
space = 32 ∷ []

abbrev pub newline : List ℕ
newline = 10 ∷ []

-- two lists of bytes are the same
unfoldable pub same : List ℕ → List ℕ → Bool
same [] [] = true
same [] (y ∷ ys) = false
same (x ∷ xs) [] = false
same (x ∷ xs) (y ∷ ys) = eqb x y && same xs ys

-- numbers, single spaces, and a newline
unfoldable pub fields : List ℕ → List ℕ
fields [] = newline
fields (n ∷ []) = decimal n ++ newline
fields (n ∷ m ∷ ns) = decimal n ++ (space ++ fields (m ∷ ns))

-- what was counted
abbrev pub counts : Notes → List ℕ
counts m = m.unsettled ∷ m.unmatched ∷ m.readings ∷ []

-- behind four numbers
abbrev pub numbers : ℕ → ℕ → ℕ → ℕ → Notes → List ℕ
numbers a b c d m = a ∷ b ∷ c ∷ d ∷ counts m

-- the numbers of a tiling; empty is zeros; no tiling is 255, configuration, sub-configuration, 0; then what was counted
abbrev numbers_by : Chosen → Notes → List ℕ
numbers_by empty m = numbers 0 0 0 0 m
numbers_by (no_tiling c sub) m = numbers 255 c sub 0 m
numbers_by (tiling code row column centre) m = numbers code row column (bit_of centre) m

unfoldable pub choice_line : Reached → List ℕ
choice_line r = fields (numbers_by r.choice r.notes)

-- document 02, Change 10: empty is seven zeros, and no tiling 255 c s 0 0 0 6
pub record BareLines : Type 0 where
  pub empties : (case : ℕ) (m : Notes) → T (in_ranges case (reach empty m)) → choice_line (reach empty m) ≡ fields (0 ∷ 0 ∷ 0 ∷ 0 ∷ 0 ∷ 0 ∷ 0 ∷ [])
  pub untiled : (case c sub : ℕ) (m : Notes) → T (in_ranges case (reach (no_tiling c sub) m))
      → choice_line (reach (no_tiling c sub) m) ≡ fields (255 ∷ c ∷ sub ∷ 0 ∷ 0 ∷ 0 ∷ 6 ∷ [])

-- the line for the refusal with this number, at a line of the input; the names line is 1
unfoldable pub refused_line : ℕ → ℕ → List ℕ
refused_line why number = refused_word ++ (decimal why ++ (space ++ (decimal number ++ newline)))

-- what a line comes to: a line of the output, or the number of a refusal
pub data Reply : Type 0 where
  answer : List ℕ → Reply
  refusal : ℕ → Reply

unfoldable pub choice_reply : Said → Reply
choice_reply (made r) = answer (choice_line r)
choice_reply (refused n) = refusal n

unfoldable pub cube_reply : Parsed → Reply
cube_reply (given case configuration q) = choice_reply (answer_of case configuration q)
cube_reply (Line.refused n) = refusal n

-- the first line names the fields; there is no line 0
unfoldable pub reply_to : ℕ → List ℕ → Reply
reply_to number line = cond (leb number 1) (cond (same line input_names) (answer output_names) (refusal 8)) (cube_reply (parse_line line))

-- what is printed for it, and whether it is the end
unfoldable pub printed : ℕ → Reply → List ℕ
printed number (answer text) = text
printed number (refusal why) = refused_line why number

abbrev pub ends : Reply → Bool
ends (answer text) = false
ends (refusal why) = true

-- a line of the output goes on, and a refusal ends the run at its line
abbrev pub flow : ℕ → Reply → ControlFlow ℕ (Unit {0})
flow number (answer text) = Continue tt
flow number (refusal why) = Break number
