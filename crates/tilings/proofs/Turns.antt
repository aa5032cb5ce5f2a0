-- Faces asked in turn: where such a plan leads. Assumes nothing.
use mathlib.Core.Path.{◌≡◌, sym, ap, ◌∙◌}
use mathlib.Core.Bool.{Bool, true, false, cond}
use mathlib.Core.List.{List, [], ◌∷◌, map}
use Prim.Native.Nat.{ℕ, ◌+◌, ◌*◌}
use native.Mathlib.Omega.{arith}
use lib.IntN.{ℤ}
use lib.ListN.{length}
use Rattle.cube.specs.Bits.{bit_of, number_of}
use Rattle.notes.specs.declared.Notes.{Notes}
use Rattle.notes.specs.Notes.{tests_of, added}
use Rattle.notes.proofs.Sums.{added_none, test_and_tests}
use Rattle.tilings.specs.Plan.{Plan, Answers, Reached, tested, run, ask_in_turn, nothing, tile, untiled, ask}

module _ (w : Answers) where
  -- a test is counted for each face
  pub in_turn : (ns : List ℤ) (next : ℕ → Plan) (m : Notes) → run w (ask_in_turn ns next) m ≡ run w (next (number_of (map w.faces ns))) (added m (tests_of (length ns)))
  unfolding run ask_in_turn number_of
  in_turn [] next m = ap (run w (next 0)) (sym (added_none m))
  in_turn (n ∷ ns) next m =
      by_answer (w.faces n) (run w (ask_in_turn ns (λ k. next (1 + 2 * k))) (tested m)) (run w (ask_in_turn ns (λ k. next (2 * k))) (tested m)) next (number_of (map w.faces ns)) (added (tested m) (tests_of (length ns)))
      (in_turn ns (λ k. next (1 + 2 * k)) (tested m))
      (in_turn ns (λ k. next (2 * k)) (tested m))
      ∙ ap (run w (next (number_of (map w.faces (n ∷ ns))))) (test_and_tests m (length ns))
    where
      by_answer : (b : Bool) (x y : Reached) (next : ℕ → Plan) (k : ℕ) (m : Notes) → x ≡ run w (next (1 + 2 * k)) m → y ≡ run w (next (2 * k)) m
          → cond b x y ≡ run w (next (bit_of b + 2 * k)) m
      by_answer true x y next k m e f = e
      by_answer false x y next k m e f = f ∙ ap (λ (j : ℕ). run w (next j) m) (omega arith)

-- the tiling and the column that a plan comes to first, 0 where it has none
abbrev pub code_of : Plan → ℕ
code_of nothing = 0
code_of (untiled c sub) = 0
code_of (tile code row column) = code
code_of (ask question p r) = code_of p

abbrev pub column_of : Plan → ℕ
column_of nothing = 0
column_of (untiled c sub) = 0
column_of (tile code row column) = column
column_of (ask question p r) = column_of p
