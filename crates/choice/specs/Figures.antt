-- Document 02, 'Change 7': how many edge readings a choice for each case makes at most, and how many readings in all: face tests, edge readings and case-13
-- tests. Definitions only.
use Rattle.std.specs.Prelude.{ℕ, Bool, ◌&&◌, List, [], ◌∷◌, leb, get_or}
use Rattle.notes.specs.declared.Notes.{Notes}
use Rattle.tilings.specs.Tilings.{is_one_of}
use Rattle.tilings.specs.Plan.{Chosen, empty, no_tiling, tiling}

pub record Figures : Type 0 where
  -- edge readings, at most
  pub edges : ℕ
  -- readings in all: the least, or the most, where an interior or case-13 test follows the face tests; nothing between
  pub least : ℕ
  pub most : ℕ

abbrev pub figure : ℕ → ℕ → ℕ → Figures
figure edges least most = record { edges = edges; least = least; most = most }

-- for a case that asks nothing
abbrev none : Figures
none = figure 0 0 0

-- from case 0
unfoldable pub figures : List Figures
figures =
    none
    ∷ none
    ∷ none
    -- case 3: a face test
    ∷ figure 0 1 1
    -- case 4: three edge readings
    ∷ figure 3 3 3
    ∷ none
    -- case 6: a face test, and perhaps an edge reading
    ∷ figure 1 1 2
    -- case 7: three face tests, and perhaps three edge readings
    ∷ figure 3 3 6
    ∷ none
    ∷ none
    -- case 10: two face tests, and perhaps an edge reading
    ∷ figure 1 2 3
    ∷ none
    -- case 12: two face tests, and perhaps two edge readings
    ∷ figure 2 2 4
    -- case 13: six face tests, and perhaps the case-13 test
    ∷ figure 0 6 7
    ∷ none
    ∷ []

abbrev pub figures_of : ℕ → Figures
figures_of case = get_or figures case none

-- those of a choice: empty asks nothing, and no tiling is what six face tests tell
abbrev pub figures_for : ℕ → Chosen → Figures
figures_for case empty = none
figures_for case (no_tiling c sub) = figure 0 6 6
figures_for case (tiling code row column centre) = figures_of case

-- no more unsettled than edge readings, no more picks without a match, and the least readings or the most
abbrev pub within : Figures → Notes → Bool
within f m = (leb m.unsettled f.edges && leb m.unmatched f.edges) && is_one_of m.readings (f.least ∷ f.most ∷ [])
