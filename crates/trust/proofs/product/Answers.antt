-- `trust::product` is exact: what it is lent are f32.
use mathlib.Core.Path.{◌≡◌, sym, subst}
use mathlib.Core.Bool.{true}
use lib.Dec.{T}
use lib.Ieee.{Float, binary32, fits}
use Rattle.binary32.proofs.Wholes.{each_is_whole}
use Rattle.trust.proofs.Products.{exact_product}
use borrow.Author.Rules.{rules}
use Rattle.trust.proofs.product.Goals as goal

fitting : (x : Float) → fits binary32 x ≡ true → T (fits binary32 x)
fitting x e = subst T (sym e) tt

pub returns-clause-exact : goal.returns-clause-exact
returns-clause-exact c =
    let e = exact_product c.args.x c.args.y (fitting _ (search rules)) (fitting _ (search rules)) c.requires.first c.requires.second in
    rw (c.from.ensures, c.from-2.ensures) e

pub returns-clause-first_whole : goal.returns-clause-first_whole
returns-clause-first_whole c = each_is_whole c.args.x (fitting _ (search rules)) c.requires.first

pub returns-clause-second_whole : goal.returns-clause-second_whole
returns-clause-second_whole c = each_is_whole c.args.y (fitting _ (search rules)) c.requires.second
