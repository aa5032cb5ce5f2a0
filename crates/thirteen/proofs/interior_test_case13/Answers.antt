-- `thirteen::interior_test_case13` is `case13_of`.
use Rattle.thirteen.proofs.Edge0.{by_edge_0}
use Rattle.thirteen.proofs.interior_test_case13.Goals as goal

pub returns : goal.returns
returns c =
    by_edge_0 _ _ _ _ _ _ _ c.values-values.ensures c.moves_of-m.ensures c.a_of-a.ensures c.b_of-b.ensures c.root-root.ensures.value c.answer_at.ensures
