-- The reading of four moves, from the tests as the code makes them. Assumes nothing.
use mathlib.Core.Path.{◌≡◌, refl, sym, ◌∙◌}
use mathlib.Core.Bool.{Bool, true, false, cond, ◌||◌, true≢false}
use lib.Ieee.{Float, nan, inf, fin, binary32, neg, add, sub, mul, div, lt, is_nan, of_bits}
use Rattle.binary32.specs.Numbers.{f32}
use Rattle.binary32.proofs.Magnitudes.{mul_nan}
use Rattle.edge.specs.declared.Moves.{Moves}
use Rattle.edge.specs.Edge.{rising, beyond, crossed, blank, a_of, b_of, cross_by, read_by}
use Rattle.edge.specs.Moves.{product_of, read_of}

-- a move's place at t
abbrev pub place_at : Float → Float → Float → Float
place_at u g t = add binary32 u (mul binary32 g t)

-- ---- a NaN t makes the product a NaN, so the code tests the product alone
place_nan : (u g : Float) → place_at u g nan ≡ nan
unfolding add
place_nan u g = rw (mul_nan binary32 g) (plus_nan u)
  where
    plus_nan : (x : Float) → add binary32 x nan ≡ nan
    plus_nan nan = refl
    plus_nan (inf s) = refl
    plus_nan (fin s m e) = refl

product_tells : (m : Moves) (t : Float) → is_nan t || is_nan (product_of m t) ≡ is_nan (product_of m t)
unfolding is_nan
product_tells m nan = rw (place_nan m.u1 m.g1) (unfold mul sub add in refl)
product_tells m (inf s) = refl
product_tells m (fin s n e) = refl

-- ---- the four ways out of `read`, by its tests: a above zero, t outside 0 and 1, the product a NaN
module _ {A : Type 0} (x y z w : A) where
  abbrev pub by_tests : Bool → Bool → Bool → A
  by_tests r o n = cond r x (cond o y (cond n z w))

  none_holds : (r o n : Bool) → (r || o) || n ≡ false → w ≡ by_tests r o n
  none_holds true o n e = absurd (true≢false e)
  none_holds false true n e = absurd (true≢false e)
  none_holds false false true e = absurd (true≢false e)
  none_holds false false false e = refl

  last_holds : (r o n : Bool) → (r || o) || n ≡ true → r || o ≡ false → z ≡ by_tests r o n
  last_holds true o n g e = absurd (true≢false e)
  last_holds false true n g e = absurd (true≢false e)
  last_holds false false true g e = refl
  last_holds false false false g e = absurd (true≢false (sym g))

  second_holds : (r o n : Bool) → r || o ≡ true → r ≡ false → y ≡ by_tests r o n
  second_holds true o n g e = absurd (true≢false e)
  second_holds false true n g e = refl
  second_holds false false n g e = absurd (true≢false (sym g))

-- the bits of 1 and 2 are 0x3f800000 and 0x40000000
module _ (m : Moves) (a b p : Float) (ea : a ≡ a_of f32 m.g1 m.g2 m.g3 m.g4) (eb : b ≡ b_of f32 m.u1 m.u2 m.u3 m.u4 m.g1 m.g2 m.g3 m.g4) where
  abbrev pub t : Float
  t = div binary32 (neg b) (mul binary32 (of_bits binary32 0x40000000) a)

  abbrev pub rises : Bool
  rises = lt (of_bits binary32 0) a

  abbrev pub outside : Bool
  outside = lt t (of_bits binary32 0) || lt (of_bits binary32 0x3f800000) t

  module _ (n : Bool) (ep : p ≡ product_of m t) (en : n ≡ is_nan p) where
    pub read_by_lem : by_tests rising (beyond t) blank (crossed t p) rises outside n ≡ read_of m
    unfolding read_of read_by cross_by of_bits
    read_by_lem = rw (← ea, ← eb, product_tells m t, ← ep, ← en)

    pub by_crossed : (rises || outside) || n ≡ false → crossed t p ≡ read_of m
    by_crossed e = none_holds _ _ _ _ rises outside n e ∙ read_by_lem

    pub by_blank : (rises || outside) || n ≡ true → rises || outside ≡ false → blank ≡ read_of m
    by_blank g e = last_holds _ _ _ _ rises outside n g e ∙ read_by_lem

    pub by_rising : rises ≡ true → rising ≡ read_of m
    by_rising e = rw (← read_by_lem, e)

    pub by_beyond : rises || outside ≡ true → rises ≡ false → beyond t ≡ read_of m
    by_beyond g e = second_holds _ _ _ _ rises outside n g e ∙ read_by_lem
