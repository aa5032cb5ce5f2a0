-- `choice::configurations_of` reads `configurations`.
use mathlib.Core.Path.{ap, sym}
use Prim.Native.Nat.{ℕ}
use lib.ListN.{get_or}
use Rattle.tilings.specs.Tilings.{configurations}
use Rattle.choice.proofs.Families.{no_more}
use Rattle.choice.proofs.configurations_of.Goals as goal

pub returns-in-1 : goal.returns-in-1
unfolding configurations
returns-in-1 c = ap (λ (k : ℕ). get_or configurations k 0) (sym c.in-1.is)

pub returns-in-2 : goal.returns-in-2
unfolding configurations
returns-in-2 c = ap (λ (k : ℕ). get_or configurations k 0) (sym c.in-2.is)

pub returns-in-3 : goal.returns-in-3
unfolding configurations
returns-in-3 c = ap (λ (k : ℕ). get_or configurations k 0) (sym c.in-3.is)

pub returns-in-4 : goal.returns-in-4
unfolding configurations
returns-in-4 c = ap (λ (k : ℕ). get_or configurations k 0) (sym c.in-4.is)

pub returns-in-5 : goal.returns-in-5
unfolding configurations
returns-in-5 c = ap (λ (k : ℕ). get_or configurations k 0) (sym c.in-5.is)

pub returns-in-6 : goal.returns-in-6
unfolding configurations
returns-in-6 c = ap (λ (k : ℕ). get_or configurations k 0) (sym c.in-6.is)

pub returns-in-7 : goal.returns-in-7
unfolding configurations
returns-in-7 c = ap (λ (k : ℕ). get_or configurations k 0) (sym c.in-7.is)

pub returns-in-8 : goal.returns-in-8
unfolding configurations
returns-in-8 c = ap (λ (k : ℕ). get_or configurations k 0) (sym c.in-8.is)

pub returns-in-9 : goal.returns-in-9
unfolding configurations
returns-in-9 c = ap (λ (k : ℕ). get_or configurations k 0) (sym c.in-9.is)

pub returns-in-10 : goal.returns-in-10
unfolding configurations
returns-in-10 c = ap (λ (k : ℕ). get_or configurations k 0) (sym c.in-10.is)

pub returns-in-11 : goal.returns-in-11
unfolding configurations
returns-in-11 c = ap (λ (k : ℕ). get_or configurations k 0) (sym c.in-11.is)

pub returns-in-12 : goal.returns-in-12
unfolding configurations
returns-in-12 c = ap (λ (k : ℕ). get_or configurations k 0) (sym c.in-12.is)

pub returns-in-13 : goal.returns-in-13
unfolding configurations
returns-in-13 c = ap (λ (k : ℕ). get_or configurations k 0) (sym c.in-13.is)

pub returns-in-14 : goal.returns-in-14
unfolding configurations
returns-in-14 c = ap (λ (k : ℕ). get_or configurations k 0) (sym c.in-14.is)

pub returns-in_default : goal.returns-in_default
returns-in_default c = no_more _ c.in_default.in_default-own.rest
