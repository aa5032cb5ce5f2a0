-- Laws of Bool that the tests of several crates need. Assumes nothing.
use mathlib.Core.Path.{◌≡◌, refl, sym}
use mathlib.Core.Logic.{◌⊎◌, inl, inr, ◌↔◌}
use mathlib.Core.Bool.{Bool, true, false, ◌&&◌, ◌||◌, beq, and-true, and_assoc}
use lib.Dec.{T}
use lib.Ieee.Fits.{and_i, and_l, and_r}

pub either : (p q : Bool) → T (p || q) → T p ⊎ T q
either true q t = inl tt
either false q t = inr t

pub four : (p q r s : Bool) → T (p && q && r && s) → T p × T q × T r × T s
four p q r s t =
    let u = and_l (p && q && r) s t in
    let v = and_l (p && q) r u in
    (and_l p q v, and_r p q v, and_r (p && q) r u, and_r (p && q && r) s t)

-- the same, as a test over a list of four has it
pub all_four : (p q r s : Bool) → T (p && (q && (r && (s && true)))) → T p × T q × T r × T s
all_four p q r s t = four p q r s (simp and_assoc (simp and-true at t))

pub or_left : (p q : Bool) → T p → T (p || q)
or_left true q t = tt
or_left false q t = absurd t

pub or_right : (p q : Bool) → T q → T (p || q)
or_right true q t = tt
or_right false q t = t

pub of_four : (p q r s : Bool) → T p → T q → T r → T s → T (p && q && r && s)
of_four p q r s a b c d = and_i (p && q && r) s (and_i (p && q) r (and_i p q a b) c) d

pub beq_true : (x y : Bool) → (beq x y ≡ true) ↔ (x ≡ y)
beq_true true true = (λ e. refl, λ e. refl)
beq_true true false = (λ e. sym e, λ e. sym e)
beq_true false true = (λ e. e, λ e. e)
beq_true false false = (λ e. refl, λ e. refl)
