-- The kinds of number that the rules of document 01 are given over: what a rule does with a corner's value, and binary32 as the
-- first kind, each operation rounded once (term 2). Definitions only.
use Rattle.std.specs.Prelude.{Bool, false, ℤ, pos, negsuc, Float}
use Rattle.std.specs.Float.{nan, inf, fin, binary32}
use Rattle.std.specs.Float.Ieee.{add, sub, mul, lt, le, of_int}

pub record Numbers : Type 1 where
  pub N : Type 0
  pub plus : N → N → N
  pub minus : N → N → N
  pub times : N → N → N
  -- a face number, or an interior test's s, as such a number
  pub small : ℤ → N
  -- too near to zero to have a sign: the tie of the face test
  pub tied : N → Bool
  -- above zero
  pub above : N → Bool
  -- zero or above
  pub not_below : N → Bool

-- |x|
abbrev pub magnitude : Float → Float
magnitude nan = nan
magnitude (inf s) = inf false
magnitude (fin s m e) = fin false m e

-- +0
abbrev pub plus_zero : Float
plus_zero = fin false 0 (pos 0)

-- 2 ^ -23, Rust's f32::EPSILON
abbrev pub epsilon : Float
epsilon = fin false 1 (negsuc 22)

abbrev pub f32 : Numbers
f32 = record {
  N = Float;
  plus = add binary32;
  minus = sub binary32;
  times = mul binary32;
  small = of_int binary32;
  tied = λ x. lt (magnitude x) epsilon;
  above = λ x. lt plus_zero x;
  not_below = λ x. le plus_zero x;
}
