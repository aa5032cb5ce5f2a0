-- The first refused cube, from one cube to the next. Assumes nothing.
use mathlib.Core.Path.{◌≡◌, sym, ap, ◌∙◌, refl}
use mathlib.Core.Bool.{Bool, true, false, cond}
use Prim.Native.Nat.{ℕ, suc, ◌+◌, ◌-◌, ◌≤◌, ◌<◌}
use native.Mathlib.Nat.{sub-zero}
use native.Mathlib.Numerals.{add-one}
use native.Mathlib.Omega.{arith}
use lib.Dec.{eqb}
use borrow.Author.Tests.{eqb-true}
use Rattle.cube.specs.declared.Refusal.{Refusal}
use Rattle.cube.specs.declared.Refusal.TheVariants.{NoCase, NoConfiguration, NotFinite, NoFace, NoEdge, UnevenLists, NoRoom, Malformed}
use Rattle.cube.specs.Refusals.{refusal_number}
use Rattle.rows.specs.Rows.{Result, done, refused_at}
use Rattle.list.specs.Lists.{first_from}

-- by the number of a cube's refusal, and what the cubes after it come to
abbrev turn : ℕ → ℕ → Result → Result
turn w i rest = cond (eqb w 0) rest (refused_at w i)

-- no refusal has the number 0
not_0 : (why : Refusal) → eqb (refusal_number why) 0 ≡ false
not_0 NoCase = refl
not_0 NoConfiguration = refl
not_0 NotFinite = refl
not_0 NoFace = refl
not_0 NoEdge = refl
not_0 UnevenLists = refl
not_0 NoRoom = refl
not_0 Malformed = refl

parted : (w i : ℕ) (rest : Result) (b : Bool) → eqb w 0 ≡ b → cond b rest (refused_at w i) ≡ done → (w ≡ 0) × (rest ≡ done)
parted w i rest true t e = (eqb-true w 0 t, e)
parted w i rest false t e = (cc, cc)

pub from_first : (refusal : ℕ → ℕ) (n : ℕ) → first_from refusal (n - 0) 0 ≡ first_from refusal n 0
from_first refusal n = ap (λ (k : ℕ). first_from refusal k 0) (sub-zero n)

module _ (refusal : ℕ → ℕ) (n i : ℕ) where
  next : i < n → first_from refusal (n - i) i ≡ turn (refusal i) i (first_from refusal (n - (i + 1)) (i + 1))
  unfolding first_from
  next h =
      let e : n - i ≡ suc (n - (i + 1)) = omega arith in
      ap (λ (k : ℕ). first_from refusal k i) e
      ∙ ap (λ (j : ℕ). turn (refusal i) i (first_from refusal (n - (i + 1)) j)) (sym (add-one i))

  pub next_made : i < n → 0 ≡ refusal i → first_from refusal (n - (i + 1)) (i + 1) ≡ first_from refusal (n - i) i
  next_made h e = sym (next h ∙ ap (λ (k : ℕ). turn k i (first_from refusal (n - (i + 1)) (i + 1))) (sym e))

  pub next_refused : i < n → (why : Refusal) → refusal_number why ≡ refusal i → refused_at (refusal_number why) i ≡ first_from refusal (n - i) i
  next_refused h why e =
      sym
      (next h
      ∙ ap (λ (k : ℕ). turn k i (first_from refusal (n - (i + 1)) (i + 1))) (sym e)
      ∙ ap (λ (b : Bool). cond b (first_from refusal (n - (i + 1)) (i + 1)) (refused_at (refusal_number why) i)) (not_0 why))

  pub none_left : n ≤ i → done ≡ first_from refusal (n - i) i
  unfolding first_from
  none_left h =
      let e : n - i ≡ 0 = omega arith in
      ap (λ (k : ℕ). first_from refusal k i) (sym e)

  -- where none is refused, not this one, and none of those after it
  pub made_one : i < n → first_from refusal (n - i) i ≡ done → (refusal i ≡ 0) × (first_from refusal (n - (i + 1)) (i + 1) ≡ done)
  made_one h e =
      let w = refusal i in
      parted w i (first_from refusal (n - (i + 1)) (i + 1)) (eqb w 0) refl (sym (next h) ∙ e)
