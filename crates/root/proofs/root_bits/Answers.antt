-- `root::root_bits` is the definition's root at every pattern, the special ones named.
use mathlib.Core.Path.{◌≡◌}
use mathlib.Core.Logic.{inl, inr}
use Rattle.root.specs.Root.{root_bits}
use Rattle.root.proofs.Patterns.{own_root}
use Rattle.root.proofs.SpecialValues.{told}
use Rattle.root.proofs.root_bits.Goals as goal
use Rattle.root.proofs.root_bits.Goals.{then-bits-eq0-via-then-bits-eq0, then-bits-eq0-via-else-bits-eq0+then-bits-eq2147483648, then-bits-eq0-via-else-bits-eq0+else-bits-eq2147483648+then-bits-eq2139095040}

pub returns-then-bits-eq0 : goal.returns-then-bits-eq0
returns-then-bits-eq0 c =
    let b = c.args.bits in
    let e : b ≡ root_bits b =
    elim c.then-bits-eq0.branch [
      | then-bits-eq0-via-then-bits-eq0 w ↦ own_root _ (inl w.if-bits-eq0.true)
      | then-bits-eq0-via-else-bits-eq0+then-bits-eq2147483648 w ↦ own_root _ (inr (inl w.if-bits-eq2147483648.true))
      | then-bits-eq0-via-else-bits-eq0+else-bits-eq2147483648+then-bits-eq2139095040 w ↦ own_root _ (inr (inr w.if-bits-eq2139095040.true))
    ] in
    let t = told b b e in
    record { pattern = t.0; special = t.1 }
