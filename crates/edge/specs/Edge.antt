-- Document 01, 'Edge reading', over any kind of number, and what the public routine answers. Definitions only.
use Rattle.std.specs.Prelude.{ℕ, Bool, true, false, cond, ◌||◌, List, [], ◌∷◌, ℤ, pos, negsuc, ltb, get_or, Float, Result, Ok, Err}
use Rattle.std.specs.Float.{fin, binary32}
use Rattle.std.specs.Float.Ieee.{neg, add, sub, mul, div, lt, eq, is_nan}
use Rattle.binary32.specs.Numbers.{Numbers, plus_zero, f32}
use Rattle.cube.specs.declared.Cube.{Cube}
use Rattle.cube.specs.Corners.{corner_of, all_finite}
use Rattle.cube.specs.declared.Refusal.{Refusal}
use Rattle.cube.specs.Refusals.{refusal_number}
use Rattle.edge.specs.declared.Reading.{Reading}
use Rattle.edge.specs.declared.Reading.TheVariants.{Rising, Beyond, Crossed, Blank}

-- u→v
pub record Move : Type 0 where
  pub u : ℕ
  pub v : ℕ

abbrev pub ◌⟶◌ : ℕ → ℕ → Move
u ⟶ v = record { u = u; v = v }

infix 68 ◌⟶◌
-- four moves per edge, from edge 0 to edge 11
unfoldable pub moves : List (List Move)
moves =
    (1 ⟶ 0 ∷ 5 ⟶ 4 ∷ 6 ⟶ 7 ∷ 2 ⟶ 3 ∷ [])
    ∷ (2 ⟶ 3 ∷ 1 ⟶ 0 ∷ 5 ⟶ 4 ∷ 6 ⟶ 7 ∷ [])
    ∷ (3 ⟶ 2 ∷ 7 ⟶ 6 ∷ 4 ⟶ 5 ∷ 0 ⟶ 1 ∷ [])
    ∷ (0 ⟶ 1 ∷ 3 ⟶ 2 ∷ 7 ⟶ 6 ∷ 4 ⟶ 5 ∷ [])
    ∷ (1 ⟶ 2 ∷ 0 ⟶ 3 ∷ 4 ⟶ 7 ∷ 5 ⟶ 6 ∷ [])
    ∷ (0 ⟶ 3 ∷ 1 ⟶ 2 ∷ 5 ⟶ 6 ∷ 4 ⟶ 7 ∷ [])
    ∷ (3 ⟶ 0 ∷ 7 ⟶ 4 ∷ 6 ⟶ 5 ∷ 2 ⟶ 1 ∷ [])
    ∷ (2 ⟶ 1 ∷ 3 ⟶ 0 ∷ 7 ⟶ 4 ∷ 6 ⟶ 5 ∷ [])
    ∷ (0 ⟶ 4 ∷ 3 ⟶ 7 ∷ 2 ⟶ 6 ∷ 1 ⟶ 5 ∷ [])
    ∷ (1 ⟶ 5 ∷ 0 ⟶ 4 ∷ 3 ⟶ 7 ∷ 2 ⟶ 6 ∷ [])
    ∷ (2 ⟶ 6 ∷ 1 ⟶ 5 ∷ 0 ⟶ 4 ∷ 3 ⟶ 7 ∷ [])
    ∷ (3 ⟶ 7 ∷ 2 ⟶ 6 ∷ 1 ⟶ 5 ∷ 0 ⟶ 4 ∷ [])
    ∷ []

-- move 1 (k = 0), 2, 3 or 4 of an edge
unfoldable pub move_of : ℤ → ℕ → Move
move_of (pos n) k = get_or (get_or moves n []) k (0 ⟶ 0)
move_of (negsuc n) k = 0 ⟶ 0

-- a reading: rising, beyond with its t, crossed with t and product, or blank
pub data Told (Q : Type 0) : Type 0 where
  rising : Told Q
  beyond : Q → Told Q
  crossed : Q → Q → Told Q
  blank : Told Q

-- what the division of one kind of number gives, and what a reading does with it
pub record Quotients (K : Numbers) : Type 1 where
  pub Q : Type 0
  -- t = -b/(2×a)
  pub turn : K.N → K.N → Q
  -- t < 0 or t > 1
  pub outside : Q → Bool
  -- w = u + g×t
  pub place : K.N → K.N → Q → Q
  -- w1×w3 - w2×w4
  pub product : Q → Q → Q → Q → Q
  -- no number
  pub none : Q → Bool
  pub below : Q → Bool
  -- equal to zero
  pub nought : Q → Bool

module _ (K : Numbers) where
  open K use {N, plus, minus, times, above}

  -- a = g1×g3 - g2×g4
  abbrev pub a_of : N → N → N → N → N
  a_of g1 g2 g3 g4 = minus (times g1 g3) (times g2 g4)

  -- b = u3×g1 + u1×g3 - u4×g2 - u2×g4, left to right
  abbrev pub b_of : N → N → N → N → N → N → N → N → N
  b_of u1 u2 u3 u4 g1 g2 g3 g4 = minus (minus (plus (times u3 g1) (times u1 g3)) (times u4 g2)) (times u2 g4)

  module _ (D : Quotients K) where
    open D use {Q, turn, outside, place, product, none, below}

    -- where t is not outside 0 and 1: crossed with t and product, or blank where t or the product is NaN
    unfoldable pub cross_by : N → N → N → N → N → N → N → N → Q → Told Q
    cross_by u1 u2 u3 u4 g1 g2 g3 g4 t =
        let p = product (place u1 g1 t) (place u2 g2 t) (place u3 g3 t) (place u4 g4 t) in
        cond (none t || none p) blank (crossed t p)

    -- the reading of four moves, each by its u and its g = v - u
    unfoldable pub read_by : N → N → N → N → N → N → N → N → Told Q
    read_by u1 u2 u3 u4 g1 g2 g3 g4 =
        let a = a_of g1 g2 g3 g4 in
        let t = turn (b_of u1 u2 u3 u4 g1 g2 g3 g4) a in
        cond (above a) rising (cond (outside t) (beyond t) (cross_by u1 u2 u3 u4 g1 g2 g3 g4 t))

    -- the value of a reading is 1
    abbrev pub valued : Told Q → Bool
    valued rising = true
    valued (beyond t) = true
    valued (crossed t p) = below p
    valued blank = false

    -- the reading of an edge of a cube by its corners
    unfoldable pub edge_by : (ℕ → N) → ℤ → Told Q
    edge_by corner n =
        let u : ℕ → N = λ k. corner (move_of n k).u in
        let g : ℕ → N = λ k. minus (corner (move_of n k).v) (corner (move_of n k).u) in
        read_by (u 0) (u 1) (u 2) (u 3) (g 0) (g 1) (g 2) (g 3)

-- ---- binary32

abbrev pub one : Float
one = fin false 1 (pos 0)

abbrev pub two : Float
two = fin false 1 (pos 1)

abbrev pub quotients : Quotients f32
quotients = record {
  Q = Float;
  turn = λ b a. div binary32 (neg b) (mul binary32 two a);
  outside = λ t. lt t plus_zero || lt one t;
  place = λ u g t. add binary32 u (mul binary32 g t);
  product = λ w1 w2 w3 w4. sub binary32 (mul binary32 w1 w3) (mul binary32 w2 w4);
  none = is_nan;
  below = λ p. lt p plus_zero;
  nought = λ p. eq p plus_zero;
}

unfoldable pub edge_of : Cube → ℤ → Told Float
edge_of q n = edge_by f32 quotients (corner_of q) n

-- ---- the public routine: refusal 5, then 3

abbrev pub is_edge : ℤ → Bool
is_edge (pos k) = ltb k 12
is_edge (negsuc k) = false

pub data Said : Type 0 where
  reading : Told Float → Said
  refused : ℕ → Said

-- the readings and answers of the code by document 01's values and numbers
abbrev pub told : Reading → Told Float
told Rising = rising
told (Beyond t) = beyond t
told (Crossed t p) = crossed t p
told Blank = blank

abbrev pub said : Result Reading Refusal → Said
said (Ok r) = reading (told r)
said (Err why) = refused (refusal_number why)

unfoldable pub edge_reading_of : Cube → ℤ → Said
edge_reading_of q n = cond (is_edge n) (cond (all_finite q) (reading (edge_of q n)) (refused 3)) (refused 5)
