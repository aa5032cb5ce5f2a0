-- A decimal by the tests that the code makes. `to_z w8` is how code reads the bits of a signed number. Assumes nothing.
use mathlib.Core.Path.{◌≡◌, refl, sym, ap, ◌∙◌}
use mathlib.Core.Bool.{Bool, true, false, cond, ◌&&◌}
use mathlib.Core.List.{List, [], ◌∷◌}
use Prim.Native.Nat.{ℕ, ◌-◌, ◌<◌}
use native.Mathlib.Omega.{arith}
use lib.Dec.{leb}
use lib.IntN.{ℤ, pos, negsuc}
use lib.ListN.{length, get_or, take, drop, length-drop}
use lib.Seq.{take_all}
use borrow.Author.Tests.{leb-true, le-leb, eq-eqb, ne_eqb}
use mir.Syntax.{w8}
use mir.Val.{SFits}
use Rattle.std.proofs.Common.{Some, None, Result, Ok, Err, OkIff}
use Rattle.std.specs.Result.{result_ok}
use Rattle.std.proofs.lemmas.List.{get_or_past}
use Rattle.line.specs.Number.{whole_of, signed_of}

module _ (text : List ℕ) where
  -- a text after a minus, as it is cut there
  abbrev pub rest : List ℕ
  rest = take (length text - 1) (drop 1 text)

  pub after_minus : (n : ℕ) → get_or text 0 0 ≡ 45 → whole_of rest ≡ n → signed_of text ≡ cond (leb 1 n && leb n 128) (Some (negsuc (n - 1))) None
  unfolding signed_of
  after_minus n h e =
      let f : whole_of (drop 1 text) ≡ n = sym (ap whole_of (take_all (length text - 1) (drop 1 text) (omega (arith, length-drop 1 text)))) ∙ e in
      rw (eq-eqb (get_or text 0 0) 45 h, f)

  pub no_number : get_or text 0 0 ≡ 45 → whole_of rest ≡ 1000 → signed_of text ≡ None
  no_number h e = after_minus 1000 h e

  pub no_minus : (n : ℕ) → (get_or text 0 0 ≡ 45 → ⊥) → whole_of text ≡ n → signed_of text ≡ cond (leb n 127) (Some (pos n)) None
  unfolding signed_of
  no_minus n h e = rw (ne_eqb (get_or text 0 0) 45 h, e)

  pub no_number_at_all : (get_or text 0 0 ≡ 45 → ⊥) → whole_of text ≡ 1000 → signed_of text ≡ None
  no_number_at_all h e = no_minus 1000 h e

  pub nothing_first : length text < 1 → get_or text 0 0 ≡ 0
  nothing_first h = get_or_past text 0 0 (omega arith)

pub within : {E : Type 0} (n : ℕ) (r : Result ℤ E) → OkIff r (SFits w8 (pos n)) (pos n) → result_ok r ≡ cond (leb n 127) (Some (pos n)) None
within n (Ok z) (f, e) = let l : n < 128 = f.sfits in rw (le-leb n 127 (omega arith), e)
within n (Err x) f = by_test (leb n 127) refl
  where
    by_test : (t : Bool) → leb n 127 ≡ t → None ≡ cond t (Some (pos n)) None
    by_test true h = let l = leb-true n 127 h in absurd (f (record { sfits = omega arith }))
    by_test false h = refl

pub nothing : (text : List ℕ) → length text ≡ 0 → None ≡ signed_of text
unfolding signed_of whole_of
nothing [] h = refl
nothing (b ∷ text) h = absurd (omega arith)

pub ruleset signs = (after_minus, no_number, no_minus, no_number_at_all, nothing_first, within)
