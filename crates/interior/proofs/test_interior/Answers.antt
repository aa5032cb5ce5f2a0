-- `interior::test_interior` is `inside_of` its faces, with few counted.
use Rattle.std.proofs.Common.{get_or, ◌<◌, ◌≤◌, arith, length}
use Rattle.interior.specs.Interior.{counted}
use Rattle.interior.proofs.Insides.{seen_at, begun, one_more_face, none_counted, all_faces, few_seen, few_more}
use Rattle.interior.proofs.test_interior.Goals as goal

pub loop-face-init : goal.loop-face-init
loop-face-init g c = record { seen = begun _ _ _ _ c.none.ensures; few = none_counted _ c.none.ensures }

pub join-sofar-requires : goal.join-sofar-requires
join-sofar-requires g c =
    let h : counted c.look.result ≤ 3 = few_seen _ _ _ c.look.ensures in
    omega arith

pub loop-face-preserved : goal.loop-face-preserved
loop-face-preserved g c =
    let h : c.loop-face.face-index < length c.args.faces = omega arith in
    let face = get_or c.args.faces c.loop-face.face-index c.face-item.result in
    let one = seen_at _ _ _ _ _ _ _ c.interior_ambiguity-edge.ensures.pick (c.any_match-matched.ensures _ face.ambiguous) c.moves_of.ensures c.look.ensures in
    record {
      seen = one_more_face _ _ _ _ c.values-values.ensures c.diagonals_of-d.ensures _ _ _ _ _ _ _ h c.loop-face.invariant.seen one c.join-sofar.ensures;
      few = few_more _ _ _ _ c.loop-face.invariant.few (few_seen _ _ _ c.look.ensures) c.join-sofar.ensures;
    }

pub returns-clause-seen : goal.returns-clause-seen
returns-clause-seen g c =
    let h : length c.args.faces ≤ c.loop-face.face-index = omega arith in
    all_faces _ _ _ _ _ _ h c.loop-face.invariant.seen

pub returns-clause-few : goal.returns-clause-few
returns-clause-few g c = omega arith
