-- `root::root` is the definition's root, the nearest value, the special ones named.
use mathlib.Core.Path.{◌≡◌, sym, ap, ◌∙◌, subst}
use lib.Dec.{T}
use lib.Ieee.{Float, nan, binary32, fits, of_bits, to_bits, div}
use lib.Ieee.Bits.{of_bits-to_bits}
use Rattle.root.specs.Root.{root_of, root_bits}
use Rattle.root.specs.Nearest.{NearestRoot}
use Rattle.root.proofs.NearestValue.{root_nearest}
use Rattle.root.specs.Special.{SpecialRoots}
use Rattle.root.proofs.SpecialValues.{special_roots}
use Rattle.root.proofs.RootFits.{root_fits}
use Rattle.root.proofs.NotBelowZero.{fails_none}
use Rattle.root.proofs.root.Goals as goal

-- the root by bit patterns, as a float
from_bits : (x : Float) → T (fits binary32 x) → of_bits binary32 (root_bits (to_bits binary32 x)) ≡ root_of x
unfolding root_bits
from_bits x t = ap (λ (y : Float). of_bits binary32 (to_bits binary32 (root_of y))) (of_bits-to_bits binary32 x t) ∙ of_bits-to_bits binary32 (root_of x) (root_fits x t)

-- what the contract says of the definition's root
of-root : (x r : Float) → T (fits binary32 x) → r ≡ root_of x → (r ≡ root_of x) × (NearestRoot x r × SpecialRoots x r)
of-root x r t e = (e, (subst (λ (y : Float). NearestRoot x y) (sym e) (root_nearest x t), special_roots x r e))

pub returns-then-x : goal.returns-then-x
returns-then-x c =
    let x = c.args.x in
    let t : T (fits binary32 x) = subst T (sym c.well_formed.0.1) tt in
    let h = of-root x c.float_of.result t (c.float_of.ensures ∙ ap (of_bits binary32) c.root_bits.ensures.pattern ∙ from_bits x t) in
    record { value = h.0; nearest = h.1.0; special = h.1.1 }

pub returns : goal.returns
unfolding div of_bits
returns c =
    let x = c.args.x in
    let h = of-root x nan (subst T (sym c.well_formed.0.1) tt) (sym (fails_none x c.if-x.false)) in
    record { value = h.0; nearest = h.1.0; special = h.1.1 }
