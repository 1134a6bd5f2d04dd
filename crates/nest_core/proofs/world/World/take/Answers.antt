use Rattle.std.proofs.Common.{◌<◌, sym, subst, length}
use Rattle.nest_core.specs.Stations.{taken_station}
use Rattle.nest_core.specs.Worlds.{WorldParts}
use Rattle.nest_core.specs.inside.Does.{takes}
use Rattle.nest_core.specs.views.World.{world_view}
use Rattle.nest_core.specs.declared.actor.Actor.TheVariants.{Taker}
use Rattle.nest_core.proofs.Meeting.{act_stands}
use Rattle.nest_core.proofs.Changing.{changed_stands, changed_ok, changed_did}
use Rattle.nest_core.proofs.world.World.take.Goals as goal

pub invariant_of-self : goal.invariant_of-self
invariant_of-self c =
    let lt : c.args.shell < length (world_view c.self.inside).line.stations =
    subst (λ (w : WorldParts). c.args.shell < length w.line.stations) (sym c.self.view_is) c.requires in
    changed_stands taken_station (world_view c.self.inside) c.args.shell c.index_mut.result.now c.take.new.self
    c.take.result lt c.index_mut.ensures.value c.take.ensures.ok c.take.ensures.err c.self.invariant
    (act_stands (world_view c.self.inside) (Taker c.args.shell) c.self.invariant)

pub returns-clause-ok : goal.returns-clause-ok
returns-clause-ok c =
    let lt : c.args.shell < length (world_view c.self.inside).line.stations =
    subst (λ (w : WorldParts). c.args.shell < length w.line.stations) (sym c.self.view_is) c.requires in
    changed_ok taken_station (world_view c.self.inside) c.args.self.now c.args.shell c.index_mut.result.now
    c.take.new.self c.take.result c.self.view_is lt c.index_mut.ensures.value c.take.ensures.ok

pub returns-clause-did : goal.returns-clause-did
returns-clause-did c =
    let lt : c.args.shell < length (world_view c.self.inside).line.stations =
    subst (λ (w : WorldParts). c.args.shell < length w.line.stations) (sym c.self.view_is) c.requires in
    changed_did takes (world_view c.self.inside) c.args.self.now c.args.shell c.index_mut.result.now c.take.result
    c.self.view_is lt c.index_mut.ensures.value c.take.ensures.did
