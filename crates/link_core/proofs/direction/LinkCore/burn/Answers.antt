use Rattle.std.proofs.Common.{ap, subst}
use Rattle.link_core.specs.views.Arriving.{Arriving}
use Rattle.link_core.specs.View.{Link, OnlyGoesOn}
use Rattle.link_core.proofs.OnlyLaws.{made, ready, only_burn}
use Rattle.link_core.proofs.direction.LinkCore.burn.Goals as goal

pub returns-clause-goes_on : goal.returns-clause-goes_on
returns-clause-goes_on c =
    let old = c.self.inside.parts in
    let new = c.burn.new.self in
    subst (λ (v : Link). OnlyGoesOn v (made new.buffer.queue.spec new.opportunities new.burnt new.arrived.come))
    c.self.view_is
    (only_burn old.buffer.queue.spec new.buffer.queue.spec old.opportunities new.opportunities old.burnt new.burnt
    old.arrived.come new.arrived.come
    c.burn.result (ready _ _ _ _ _ _ _ _ _ _ _ c.self.invariant.0) c.burn.ensures.link.spec
    c.burn.ensures.link.opportunities (ap (λ (a : Arriving). a.come) c.burn.ensures.arrived) c.burn.ensures.burnt
    c.burn.ensures.err)
