use Rattle.sender_merge.proofs.Inletting.{open-at, same-all, same-set}
use Rattle.sender_merge.proofs.merger.receive_rest.Goals as goal

pub loop-init : goal.loop-init
loop-init g c = same-all c.args.inlets.now

pub receive-requires : goal.receive-requires
receive-requires g c = open-at c.in-Some-furthest_behind.place c.loop.inlets c.index-inlets-place.result
    c.in-Some-furthest_behind.ensures.furthest.going

pub loop-preserved : goal.loop-preserved
loop-preserved g c = same-set c.args.inlets.now c.loop.inlets c.in-Some-furthest_behind.place c.receive.new.self
    c.index-inlets-place.result c.in-Some-furthest_behind.ensures.within c.loop.invariant c.receive.ensures.same
