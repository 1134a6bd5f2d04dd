use Rattle.std.proofs.Common.{◌≡◌, sym, subst, List, length, arith}
use Rattle.std.proofs.lemmas.List.{with_items_is}
use Rattle.nest_core.specs.declared.station.Station.{Station}
use Rattle.nest_core.specs.declared.actor.Actor.TheVariants.{Receiver}
use Rattle.nest_core.specs.Worlds.{line, world}
use Rattle.nest_core.specs.inside.Standing.{WorldStands}
use Rattle.nest_core.specs.inside.Does.{MayCollect}
use Rattle.nest_core.specs.views.World.{world_view}
use Rattle.nest_core.proofs.Meeting.{act_stands}
use Rattle.nest_core.proofs.Changing.{may_collect, received_stands}
use Rattle.nest_core.proofs.world.World.receive.Goals as goal

pub receive-requires : goal.receive-requires
receive-requires c =
    subst (λ (l : List Station). MayCollect c.self.inside.channel l c.self.inside.collected.stream)
    (sym c.as_mut_slice.ensures.value) (may_collect (world_view c.self.inside) c.self.invariant)

pub invariant_of-self : goal.invariant_of-self
invariant_of-self c =
    let w = world_view c.self.inside in
    let long : length c.receive.new.stations ≡ c.self.inside.stations.len =
    omega (arith, c.receive.auto.stations, c.as_mut_slice.ensures.len) in
    subst (λ (l : List Station). WorldStands
    (world w.horizon w.unsent (line c.receive.new.channel l c.receive.new.collected.stream)))
    (sym (with_items_is c.self.inside.stations c.receive.new.stations long))
    (received_stands w c.args.shell c.receive.new.channel c.as_mut_slice.result.now c.receive.new.stations
    c.receive.new.collected.stream c.receive.result
    c.as_mut_slice.ensures.value c.receive.ensures.ok c.receive.ensures.err c.self.invariant
    (act_stands w (Receiver c.args.shell) c.self.invariant))
