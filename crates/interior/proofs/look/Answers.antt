-- `interior::look` sees what the reading of the moves says.
use Rattle.interior.proofs.Settled.{looked}
use Rattle.interior.proofs.look.Goals as goal

pub returns : goal.returns
returns c = looked _ _ _ _ c.a_of-a.ensures c.b_of.ensures c.product_at-product.ensures _ _ c.look.ensures
