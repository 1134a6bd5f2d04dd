use Rattle.std.proofs.Common.{arith}
use Rattle.sender_merge.proofs.Inletting.{none-open, on_ok, open-at, same-all}
use Rattle.sender_merge.proofs.Inletting.{same-set}
use Rattle.sender_merge.proofs.Inletting.{within-set}
use Rattle.sender_merge.proofs.Thinning.{keeps-long, may-thin, received-thin}
use Rattle.sender_merge.proofs.merger.receive_one.Goals as goal

pub unreachable-requires : goal.unreachable-requires
unreachable-requires g c =
    let m = c.requires.going in
    none-open c.args.inlets.now m.0.senders m.1.added c.in_default.ensures.none m.2

pub receive-item-requires : goal.receive-item-requires
receive-item-requires g c = open-at c.in-Some.place c.args.inlets.now c.index-inlets-place.result
    c.in-Some.ensures.furthest.going

pub add-requires-clause-few : goal.add-requires-clause-few
add-requires-clause-few g c =
    let m = c.requires.going in
    let long = keeps-long m.0 c.args.inlets.now c.args.core.now m.1 in
    let lt = c.in-Some.ensures.within in omega arith

pub add-requires-clause-follows : goal.add-requires-clause-follows
add-requires-clause-follows g c =
    let m = c.requires.going in
    may-thin m.0 c.args.inlets.now c.args.core.now c.in-Some.place c.index-inlets-place.result c.receive-item.result m.1
    c.in-Some.ensures.within c.receive-item.ensures.follows

pub returns-clause-added : goal.returns-clause-added
returns-clause-added g c =
    on_ok c.add.result _ _
    (λ adds m keeps. received-thin m c.args.inlets.now c.args.core.now c.add.new.self c.in-Some.place
    c.receive-item.new.self c.index-inlets-place.result c.receive-item.result keeps c.in-Some.ensures.within
    c.receive-item.ensures.follows c.receive-item.ensures.flow (adds m keeps.stands keeps.thin))
    c.add.ensures.ok

pub returns-clause-within : goal.returns-clause-within
returns-clause-within g c = λ horizon all.
    within-set horizon c.in-Some.place c.args.inlets.now c.receive-item.new.self c.index-inlets-place.result
    c.receive-item.result all c.receive-item.ensures.within c.receive-item.ensures.flow c.receive-item.ensures.same.0

pub returns-clause-same : goal.returns-clause-same
returns-clause-same g c = same-set c.args.inlets.now c.args.inlets.now c.in-Some.place c.receive-item.new.self
    c.index-inlets-place.result c.in-Some.ensures.within (same-all c.args.inlets.now) c.receive-item.ensures.same
