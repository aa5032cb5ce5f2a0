-- `root::positive` writes the root of a positive value by its fields.
use mathlib.Core.Path.{◌∙◌}
use native.Mathlib.Omega.{arith}
use Rattle.root.proofs.Patterns.{subnormal_bits, normal_bits}
use Rattle.root.proofs.positive.Goals as goal

pub returns-then-field-eq0 : goal.returns-then-field-eq0
returns-then-field-eq0 c = c.scaled.ensures ∙ subnormal_bits _ _ c.if-field-eq0.true c.requires.1.0 c.requires.1.1

pub returns-then-field-eq0-2 : goal.returns-then-field-eq0-2
returns-then-field-eq0-2 c = c.rounded.ensures ∙ normal_bits _ _ 24 _ c.if-field-eq0.false c.requires.0 c.requires.1.0 (omega arith)

pub returns : goal.returns
returns c = c.rounded-2.ensures ∙ normal_bits _ _ 23 _ c.if-field-eq0.false c.requires.0 c.requires.1.0 (omega arith)
