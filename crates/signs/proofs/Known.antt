-- Each family is a case with one of its configurations, so the front refuses by the corners alone. Assumes nothing.
use mathlib.Core.Path.{◌≡◌, refl, sym, subst, ap, ◌∙◌}
use mathlib.Core.Bool.{Bool, true, false, cond, ◌&&◌}
use Prim.Native.Nat.{ℕ, ◌<◌}
use lib.Dec.{T}
use mir.Syntax.{w8}
use mir.Val.{to_z, of_z}
use Rattle.cube.specs.declared.Cube.{Cube}
use Rattle.cube.specs.Corners.{all_finite}
use Rattle.cube.proofs.Table.{all_under, under}
use Rattle.tilings.specs.Tilings.{configurations}
use Rattle.tilings.specs.Plan.{Reached}
use Rattle.choice.specs.Choice.{is_case, is_configuration, nat_of, refusal_of, choice_of, made, refused}
use Rattle.signs.specs.declared.Family.{Family}
use Rattle.signs.specs.Sets.{set_of}
use Rattle.signs.specs.Rule.{family, family_of}
use Rattle.signs.specs.Table.{families, family_at}
use Rattle.signs.specs.Front.{choice_for, front_of}
use Rattle.signs.proofs.Ruled.{same, same_lem, by_rule}
use Rattle.signs.proofs.Sets.{set_below}

abbrev known : Family → Bool
known f = is_case f.case && is_configuration (nat_of f.case) f.configuration

all_known : T (all_under 256 (λ set. known (family_at set)))
unfolding families family_at configurations
all_known = tt

known_family : (set : ℕ) → set < 256 → T (known (family_of set))
known_family set h = subst (λ (f : Family). T (known f)) (by_rule set h) (under 256 (λ s. known (family_at s)) all_known set h)

abbrev if_not : Bool → ℕ
if_not finite = cond finite 0 3

of_known : (a b d : Bool) → T (a && b) → cond a (cond b (if_not d) 2) 1 ≡ if_not d
of_known true true d t = refl
of_known true false d t = absurd t
of_known false b d t = absurd t

pub by_corners : (q : Cube) → refusal_of (family_of (set_of q)).case (family_of (set_of q)).configuration q ≡ cond (all_finite q) 0 3
unfolding refusal_of
by_corners q =
    let f = family_of (set_of q) in
    of_known (is_case f.case) (is_configuration (nat_of f.case) f.configuration) (all_finite q) (known_family (set_of q) (set_below q))

made_if : (b : Bool) → T b → if_not b ≡ 0
made_if true t = refl
made_if false t = absurd t

-- ---- as the code reads them
abbrev read_as : Family → Family
read_as f = family (to_z w8 (of_z w8 f.case)) (to_z w8 (of_z w8 f.configuration))

all_read : T (all_under 256 (λ set. same (read_as (family_at set)) (family_at set)))
unfolding families family_at
all_read = tt

module _ (q : Cube) (set : ℕ) (f : Family) (e : set ≡ set_of q) (i : f ≡ family_of set) where
  read_so : read_as f ≡ family_of (set_of q)
  read_so =
      let its = family_of (set_of q) in
      ap read_as (i ∙ ap family_of e)
      ∙ subst (λ (g : Family). read_as g ≡ g) (by_rule (set_of q) (set_below q))
      (same_lem (read_as (family_at (set_of q))) (family_at (set_of q)) (under 256 (λ s. same (read_as (family_at s)) (family_at s)) all_read (set_of q) (set_below q)))

  pub not_refused : T (all_finite q) → refusal_of (to_z w8 (of_z w8 f.case)) (to_z w8 (of_z w8 f.configuration)) q ≡ 0
  not_refused t = ap (λ (g : Family). refusal_of g.case g.configuration q) read_so ∙ by_corners q ∙ made_if (all_finite q) t

  pub chosen_so : (r : Reached) → r ≡ choice_of (to_z w8 (of_z w8 f.case)) (to_z w8 (of_z w8 f.configuration)) q → r ≡ choice_for q
  chosen_so r h = h ∙ ap (λ (g : Family). choice_of g.case g.configuration q) read_so

pub is_finite : (q : Cube) (b : Bool) → b ≡ all_finite q → b ≡ true → T (all_finite q)
is_finite q b e h = subst T (sym h ∙ e) tt

-- ---- what is said, b being what the code has found of the corners
module _ (q : Cube) (b : Bool) (e : b ≡ all_finite q) where
  said_by : (d : Bool) → b ≡ d → cond d (made (choice_for q)) (refused 3) ≡ front_of q
  unfolding front_of
  said_by d h = ap (λ (d : Bool). cond d (made (choice_for q)) (refused 3)) (sym h ∙ e)

  pub said_refused : b ≡ false → refused 3 ≡ front_of q
  said_refused h = said_by false h

  pub said_made : b ≡ true → (r : Reached) → r ≡ choice_for q → made r ≡ front_of q
  said_made h r i = ap made i ∙ said_by true h
