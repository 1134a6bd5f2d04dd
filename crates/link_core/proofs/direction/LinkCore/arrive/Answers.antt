use Rattle.std.proofs.Common.{◌≤◌, sym, subst}
use Rattle.packet_record.specs.Moments.{AreUpTo}
use Rattle.link_core.specs.Promises.{count_to}
use Rattle.link_core.specs.View.{Link, opps_of, OnlyGoesOn}
use Rattle.link_core.proofs.OnlyLaws.{made, ready, only_arrive}
use Rattle.link_core.proofs.direction.LinkCore.arrive.Goals as goal

pub returns-clause-goes_on : goal.returns-clause-goes_on
returns-clause-goes_on c =
    let old = c.self.inside.parts in
    let new = c.arrive.new.self in
    let t = c.args.t in
    let up = subst (λ (v : Link). AreUpTo t.moment v.arrivals) (sym c.self.view_is) c.requires.order in
    let le = subst (λ (v : Link). v.burnt ≤ count_to (opps_of v) t.moment) (sym c.self.view_is) c.requires.burnt in
    subst (λ (v : Link). OnlyGoesOn v (made new.buffer.queue.spec new.opportunities new.burnt new.arrived.come))
    c.self.view_is
    (only_arrive old.buffer.queue.spec new.buffer.queue.spec old.opportunities new.opportunities old.burnt new.burnt
    old.arrived.come new.arrived.come t
    c.arrive.result (ready _ _ _ _ _ _ _ _ _ _ _ c.self.invariant.0) c.arrive.ensures.link.spec
    c.arrive.ensures.link.opportunities up le c.arrive.ensures.burnt c.arrive.ensures.arrived c.arrive.ensures.err)
