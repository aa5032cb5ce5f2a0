-- A line that is read is the line as it is written: `only_written`. Assumes nothing.
use mathlib.Core.Path.{◌≡◌, refl, sym, ap, ap₂, subst, ◌∙◌}
use mathlib.Core.Logic.{⊎_elim}
use mathlib.Core.Bool.{Bool, true, false}
use mathlib.Core.List.{List, [], ◌∷◌, ◌++◌}
use Prim.Native.Nat.{ℕ, zero, suc, ◌+◌, ◌-◌, ◌*◌, ◌≤◌, ◌<◌}
use native.Mathlib.Nat.{eq-zero-or-pos}
use native.Mathlib.Omega.{arith}
use lib.IntN.{ℤ}
use lib.ListN.{length, take, drop, length-drop, take-append-drop, drop_of_length-le}
use lib.Seq.{take_all, drop-drop}
use Rattle.scan.specs.Bytes.{index_of}
use Rattle.cube.specs.declared.Cube.{Cube}
use Rattle.std.proofs.Common.{Option, Some, None}
use Rattle.line.specs.Number.{signed_of}
use Rattle.line.specs.Line.{Parsed, given, refused, malformed, corner_bits, have_corners, cube_in, line_from, parse_line}
use Rattle.line.specs.Written.{corner, line_of, IsWritten, OnlyWritten}
use Rattle.line.proofs.Decimals.{nothing}
use Rattle.line.proofs.Corners.{each_corner}
use Rattle.line.proofs.Cuts.{cut_at, is_cut, second_broken, without_head}
use Rattle.line.proofs.ReadDecimals.{IsText, read_text}
use Rattle.line.proofs.ReadWords.{read_corner}

-- ---- the corners
module _ (tail : List ℕ) where
  -- corner k and the n after it
  texts : ℕ → ℕ → List ℕ
  texts zero k = corner (corner_bits tail k)
  texts (suc n) k = corner (corner_bits tail k) ++ texts n (suc k)

  abbrev all_texts : List ℕ
  all_texts =
      let c : ℕ → List ℕ = λ k. corner (corner_bits tail k) in
      c 0 ++ (c 1 ++ (c 2 ++ (c 3 ++ (c 4 ++ (c 5 ++ (c 6 ++ c 7))))))

  module _ (size : length tail ≡ 72) (have : have_corners tail ≡ true) where
    corner_at : (k : ℕ) → k < 8 → take 9 (drop (9 * k) tail) ≡ corner (corner_bits tail k)
    corner_at k h = read_corner tail k (omega arith) (each_corner tail have k h)

    from_corner : (n k : ℕ) → k + n ≡ 7 → drop (9 * k) tail ≡ texts n k
    unfolding texts
    from_corner zero k h = sym (take_all 9 (drop (9 * k) tail) (omega (arith, length-drop (9 * k) tail))) ∙ corner_at k (omega arith)
    from_corner (suc n) k h =
        let next : 9 * k + 9 ≡ 9 * suc k = omega arith in
        let rest = drop-drop 9 (9 * k) tail ∙ ap (λ i. drop i tail) next ∙ from_corner n (suc k) (omega arith) in
        sym (take-append-drop 9 (drop (9 * k) tail)) ∙ ap₂ (λ (s t : List ℕ). s ++ t) (corner_at k (omega arith)) rest

    corners_text : tail ≡ all_texts
    unfolding texts
    corners_text = from_corner 7 0 refl

-- ---- the line, by what it is read as
abbrev IsLine : List ℕ → Parsed → Type 0
IsLine line (given case configuration q) = IsWritten line case configuration q
IsLine line (refused n) = n ≡ 8

module _ (line : List ℕ) (long : 72 ≤ length line) where
  abbrev n : ℕ
  n = length line - 72

  abbrev head : List ℕ
  head = take n line

  abbrev k : ℕ
  k = index_of 32 head

  module _ (space : k < length head) where
    at_the_space : line ≡ take k head ++ (32 ∷ drop (suc k) head) ++ drop n line
    at_the_space =
        sym (take-append-drop n line) ∙ ap (λ (l : List ℕ). l ++ drop n line) (cut_at 32 head space)

    of_parts : (x y : Option ℤ) → IsText (take k head) x → IsText (drop (suc k) head) y → (t : Bool) → have_corners (drop n line) ≡ t
        → IsLine line (line_from x y (drop n line))
    unfolding line_from line_of cube_in
    of_parts (Some x) (Some y) f g true e =
        let tail = corners_text (drop n line) (omega (arith, length-drop n line)) e in
        rw e (f.0, (g.0, (at_the_space ∙ (λ i. f.1 i ++ (32 ∷ g.1 i) ++ tail i), refl)))
    of_parts (Some x) (Some y) f g false e = rw e refl
    of_parts (Some x) None f g t e = refl
    of_parts None y f g t e = refl

  of_head : IsLine line (parse_line line)
  of_head =
      ⊎_elim
      (λ (none : length head - k ≡ 0).
      let empty : drop (suc k) head ≡ [] = drop_of_length-le head {i = suc k} (omega arith) in
      subst (IsLine line) (sym (is_cut line ∙ second_broken line n k (ap signed_of empty ∙ sym (nothing [] refl)))) refl)
      (λ (space : 0 < length head - k).
      subst (IsLine line) (sym (is_cut line))
      (of_parts (omega arith) (signed_of (take k head)) (signed_of (drop (suc k) head)) (read_text (take k head)) (read_text (drop (suc k) head))
      (have_corners (drop n line)) refl))
      (eq-zero-or-pos (length head - k))

of_line : (line : List ℕ) → IsLine line (parse_line line)
of_line line =
    ⊎_elim
    (λ (long : 72 - length line ≡ 0). of_head line (omega arith))
    (λ (short : 0 < 72 - length line). subst (IsLine line) (without_head line (omega arith)) refl)
    (eq-zero-or-pos (72 - length line))

pub only_written : OnlyWritten
only_written line case configuration q e = subst (IsLine line) e (of_line line)

no_line : (line : List ℕ) (r : Parsed) → IsLine line r → ((x y : ℤ) (q : Cube) → IsWritten line x y q → ⊥) → r ≡ malformed
no_line line (given x y q) w no_way = absurd (no_way x y q w)
no_line line (refused n) w no_way = ap refused w

-- what is the line of no numbers is refused
pub not_written : (line : List ℕ) → ((x y : ℤ) (q : Cube) → IsWritten line x y q → ⊥) → parse_line line ≡ malformed
not_written line = no_line line (parse_line line) (of_line line)
