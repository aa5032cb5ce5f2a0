-- Where the plan of case 13 leads, from the answers as the code has them. Assumes nothing.
use mathlib.Core.Path.{◌≡◌, refl, sym, ap, ◌∙◌}
use mathlib.Core.Bool.{Bool, true, false}
use mathlib.Core.List.{List, [], ◌∷◌, map}
use Prim.Native.Nat.{ℕ, ◌+◌, ◌-◌, ◌*◌, ◌<◌, ◌≤◌}
use native.Mathlib.Omega.{arith}
use borrow.Author.Tests.{ne_eqb}
use lib.IntN.{ℤ, pos}
use lib.ListN.{get_or}
use Rattle.std.specs.declared.option.Option.{Option}
use Rattle.std.specs.declared.option.Option.TheVariants.{None, Some}
use Rattle.cube.specs.declared.Cube.{Cube}
use Rattle.cube.specs.Bits.{number_of}
use Rattle.cube.proofs.Table.{agree}
use Rattle.face.specs.Face.{face_of}
use Rattle.notes.specs.Notes.{no_notes, tests_of}
use Rattle.thirteen.specs.Thirteen.{case13_of}
use Rattle.tilings.specs.Tilings as Tilings
use Rattle.tilings.specs.Tilings.{has_centre}
use Rattle.tilings.specs.Plan.{Plan, nothing, untiled, tile, ask, no_tiling, tiling, reach, run}
use Rattle.tilings.specs.Answers.{answers_of}
use Rattle.tilings.proofs.Columns.{table_of, read}
use Rattle.tilings.proofs.Turns.{in_turn}
use Rattle.family_13.specs.Tables.{TEST_13, SUB_CONFIG_13}
use Rattle.family_13.specs.Plans.{tile13, parts13, last_from, part13, part_at13, faces13, plan13}

module _ (q : Cube) (c code column : ℕ) where
  pub inside_yes : code ≡ Tilings.TILING_13_5_1 → (b : Bool) → b ≡ case13_of q → b ≡ true
      → reach (tiling Tilings.TILING_13_5_1 c column (has_centre Tilings.TILING_13_5_1)) (tests_of 7) ≡ run (answers_of q) (tile13 c code column) (tests_of 6)
  unfolding run tile13
  inside_yes e b f h = rw (e, sym f ∙ h)

  pub inside_no : code ≡ Tilings.TILING_13_5_1 → (b : Bool) → b ≡ case13_of q → b ≡ false
      → reach (tiling Tilings.TILING_13_5_2 (1 - c) column (has_centre Tilings.TILING_13_5_2)) (tests_of 7) ≡ run (answers_of q) (tile13 c code column) (tests_of 6)
  unfolding run tile13
  inside_no e b f h = rw (e, sym f ∙ h)

  pub not_asked : (code ≡ Tilings.TILING_13_5_1 → ⊥) → reach (tiling code c column (has_centre code)) (tests_of 6) ≡ run (answers_of q) (tile13 c code column) (tests_of 6)
  unfolding run tile13
  not_asked h = rw (ne_eqb code Tilings.TILING_13_5_1 h)

-- the tiling and the column that a plan comes to first
abbrev tiled_of : Plan → Option (ℕ × ℕ)
tiled_of nothing = None
tiled_of (untiled c sub) = None
tiled_of (tile code row column) = Some (code, column)
tiled_of (ask question p r) = tiled_of p

-- by the sub-configuration, as the code reads it
abbrev tiled13 : ℕ → Option (ℕ × ℕ)
tiled13 sub = get_or (table_of (λ k. tiled_of (part_at13 0 k)) 64) sub None

abbrev plan_by : ℕ → ℕ → Option (ℕ × ℕ) → Plan
plan_by c sub None = untiled c sub
plan_by c sub (Some at) = tile13 c at.0 at.1

parted : (c sub : ℕ) → sub ≤ 63 → plan_by c sub (tiled13 sub) ≡ part_at13 c sub
unfolding part13 parts13 last_from tile13 SUB_CONFIG_13
parted c sub l = agree (λ k. plan_by c k (tiled13 k)) (part_at13 c) 64 refl sub (omega (arith, l))

pub untiled_lem : (q : Cube) (c sub : ℕ) → sub ≤ 63 → tiled13 sub ≡ None → reach (no_tiling c sub) (tests_of 6) ≡ run (answers_of q) (part_at13 c sub) (tests_of 6)
unfolding run
untiled_lem q c sub l h = rw (sym (parted c sub l), h)

pub tiled_lem : (q : Cube) (c sub : ℕ) → sub ≤ 63 → (code column : ℕ) → tiled13 sub ≡ Some (code, column)
    → run (answers_of q) (tile13 c code column) (tests_of 6) ≡ run (answers_of q) (part_at13 c sub) (tests_of 6)
tiled_lem q c sub l code column h = rw (sym (parted c sub l), h)

three_and_three : (f : ℤ → Bool) (x y z u v w : ℤ) (k l : ℕ) → k ≡ number_of (map f (x ∷ y ∷ z ∷ [])) → l ≡ number_of (map f (u ∷ v ∷ w ∷ []))
    → k + 8 * l ≡ number_of (map f (x ∷ y ∷ z ∷ u ∷ v ∷ w ∷ []))
unfolding number_of
three_and_three f x y z u v w k l e g = omega (arith, e, g)

-- the faces as the code reads them
abbrev read13 : ℕ → ℕ → ℤ
read13 k c = read (get_or (get_or (table_of faces13 2) c []) k (pos 0))

abbrev read_all13 : ℕ → List ℤ
read_all13 c = read13 0 c ∷ read13 1 c ∷ read13 2 c ∷ read13 3 c ∷ read13 4 c ∷ read13 5 c ∷ []

reads13 : (c : ℕ) → c < 2 → read_all13 c ≡ faces13 c
unfolding TEST_13
reads13 = agree read_all13 faces13 2 refl

pub thirteen_asked : (q : Cube) (c : ℕ) → c < 2 → (k l : ℕ)
    → k ≡ number_of (map (face_of q) (read13 0 c ∷ read13 1 c ∷ read13 2 c ∷ [])) → l ≡ number_of (map (face_of q) (read13 3 c ∷ read13 4 c ∷ read13 5 c ∷ []))
    → run (answers_of q) (part_at13 c (k + 8 * l)) (tests_of 6) ≡ run (answers_of q) (plan13 c) no_notes
unfolding plan13
thirteen_asked q c h k l e f =
    rw (three_and_three (face_of q) (read13 0 c) (read13 1 c) (read13 2 c) (read13 3 c) (read13 4 c) (read13 5 c) k l e f
    ∙ ap (λ ns. number_of (map (face_of q) ns)) (reads13 c h))
    (sym (in_turn (answers_of q) (faces13 c) (part_at13 c) no_notes))
