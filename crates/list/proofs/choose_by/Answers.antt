-- `list::choose_by` meets its contract: its tests, then the first pass, then the second. Assumes nothing.
use native.Mathlib.Omega.{arith}
use Rattle.list.proofs.Outcomes.{not_agreed, no_room, all_done, one_refused}
use Rattle.list.proofs.choose_by.Goals as goal

pub returns-then-not-agree-clause-outcome : goal.returns-then-not-agree-clause-outcome
returns-then-not-agree-clause-outcome g c =
    let l = g.C.CubeList in
    let s = c.args in
    (not_agreed (l.refusal s.cubes) (l.choice s.cubes) s.n s.agree s.answers.now c.if-not-agree.true).0

pub returns-then-not-agree-clause-answers : goal.returns-then-not-agree-clause-answers
returns-then-not-agree-clause-answers g c =
    let l = g.C.CubeList in
    let s = c.args in
    (not_agreed (l.refusal s.cubes) (l.choice s.cubes) s.n s.agree s.answers.now c.if-not-agree.true).1

pub returns-then-answers-n-clause-outcome : goal.returns-then-answers-n-clause-outcome
returns-then-answers-n-clause-outcome g c =
    let l = g.C.CubeList in
    let s = c.args in
    (no_room (l.refusal s.cubes) (l.choice s.cubes) s.n s.agree s.answers.now c.if-not-agree.false (omega arith)).0

pub returns-then-answers-n-clause-answers : goal.returns-then-answers-n-clause-answers
returns-then-answers-n-clause-answers g c =
    let l = g.C.CubeList in
    let s = c.args in
    (no_room (l.refusal s.cubes) (l.choice s.cubes) s.n s.agree s.answers.now c.if-not-agree.false (omega arith)).1

pub returns-in_err-first_refused-clause-outcome : goal.returns-in_err-first_refused-clause-outcome
returns-in_err-first_refused-clause-outcome g c =
    let l = g.C.CubeList in
    let s = c.args in
    (one_refused (l.refusal s.cubes) (l.choice s.cubes) s.n s.agree s.answers.now c.if-not-agree.false (omega arith) _ c.in_err-first_refused.ensures _ c.from_residual.ensures.1).0

pub returns-in_err-first_refused-clause-answers : goal.returns-in_err-first_refused-clause-answers
returns-in_err-first_refused-clause-answers g c =
    let l = g.C.CubeList in
    let s = c.args in
    (one_refused (l.refusal s.cubes) (l.choice s.cubes) s.n s.agree s.answers.now c.if-not-agree.false (omega arith) _ c.in_err-first_refused.ensures _ c.from_residual.ensures.1).1

pub returns-clause-outcome : goal.returns-clause-outcome
returns-clause-outcome g c =
    let l = g.C.CubeList in
    let s = c.args in
    (all_done (l.refusal s.cubes) (l.choice s.cubes) s.n s.agree s.answers.now c.if-not-agree.false (omega arith) c.in_ok-first_refused.ensures _ c.put_rows.ensures).0

pub returns-clause-answers : goal.returns-clause-answers
returns-clause-answers g c =
    let l = g.C.CubeList in
    let s = c.args in
    (all_done (l.refusal s.cubes) (l.choice s.cubes) s.n s.agree s.answers.now c.if-not-agree.false (omega arith) c.in_ok-first_refused.ensures _ c.put_rows.ensures).1

pub returns-clause-places : goal.returns-clause-places
returns-clause-places g c =
    let l = g.C.CubeList in
    let s = c.args in
    (all_done (l.refusal s.cubes) (l.choice s.cubes) s.n s.agree s.answers.now c.if-not-agree.false (omega arith) c.in_ok-first_refused.ensures _ c.put_rows.ensures).2
