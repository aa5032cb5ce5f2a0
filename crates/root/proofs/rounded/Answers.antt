-- `root::rounded` writes the rounded root.
use native.Mathlib.Omega.{arith}
use Rattle.root.proofs.Rounding.{root_le, root_below, stays_bits, moves_bits}
use Rattle.root.proofs.rounded.Goals as goal

pub overflow_mul-q : goal.overflow_mul-q
overflow_mul-q c = omega (arith, root_le _ c.args.k _ c.requires.0 c.requires.1.0 c.isqrt-q.ensures)

pub overflow_add-q : goal.overflow_add-q
overflow_add-q c = omega (arith, root_le _ c.args.k _ c.requires.0 c.requires.1.0 c.isqrt-q.ensures, root_below _ c.args.k _ c.requires.0 c.requires.1.0 c.isqrt-q.ensures)

pub returns-then-q-n : goal.returns-then-q-n
returns-then-q-n c = moves_bits _ _ _ c.requires.0 c.requires.1.0 c.requires.1.1 c.isqrt-q.ensures c.if-q-n.true

pub overflow_cast-result-2 : goal.overflow_cast-result-2
overflow_cast-result-2 c = omega (arith, root_below _ c.args.k _ c.requires.0 c.requires.1.0 c.isqrt-q.ensures)

pub overflow_add-result-2 : goal.overflow_add-result-2
overflow_add-result-2 c = omega (arith, root_below _ c.args.k _ c.requires.0 c.requires.1.0 c.isqrt-q.ensures)

pub returns : goal.returns
returns c = stays_bits _ _ _ c.requires.0 c.requires.1.0 c.requires.1.1 c.isqrt-q.ensures c.if-q-n.false
