-- What was taken now stands behind what was taken before.
use Rattle.std.proofs.Common.{ℕ, ◌+◌, ◌≤◌, List, ◌++◌, take, drop, Option, sym, subst, ap, ◌∙◌, arith}
use lib.Seq.{take-add}
use Rattle.std.specs.Io.KnownBytes.{Appends}
use Rattle.std.proofs.KnownBytes.{Appends-trans}
use Rattle.std.proofs.lemmas.List.{take-take}
use Rattle.waiting.proofs.write_all.Goals as goal

more_taken : (a b c : Option (List ℕ)) (n k m : ℕ) (text : List ℕ) → k ≤ m → Appends a b (take n text) → Appends b c (take k (take m (drop n text))) → Appends a c (take (n + k) text)
more_taken a b c n k m text l p q =
    subst (Appends a c) (sym (take-add n k text ∙ ap (λ w. take n text ++ w) (sym (take-take k m (drop n text) l)))) (Appends-trans a b c _ _ p q)

pub loop-taken-preserved : goal.loop-taken-preserved
loop-taken-preserved g c =
    let h = c.in-Ok.ensures in
    record {
      within = grind arith;
      bytes = more_taken _ _ _ c.loop-taken.taken c.in-Ok.put _ c.args.text.now (grind arith) c.loop-taken.invariant.bytes h.bytes;
    }
