use Rattle.std.proofs.Common.{◌<◌, sym, subst, length}
use Rattle.nest_core.specs.Stations.{fed_station}
use Rattle.nest_core.specs.Worlds.{WorldParts}
use Rattle.nest_core.specs.inside.Does.{feeds}
use Rattle.nest_core.specs.views.World.{world_view}
use Rattle.nest_core.specs.declared.actor.Actor.TheVariants.{Feeder}
use Rattle.nest_core.proofs.Meeting.{act_stands}
use Rattle.nest_core.proofs.Changing.{may_feed_at, changed_stands, changed_ok, changed_did}
use Rattle.nest_core.proofs.world.World.feed.Goals as goal

pub feed-requires : goal.feed-requires
feed-requires c =
    let lt : c.args.shell < length (world_view c.self.inside).line.stations =
    subst (λ (w : WorldParts). c.args.shell < length w.line.stations) (sym c.self.view_is) c.requires in
    may_feed_at (world_view c.self.inside) c.args.shell c.index_mut.result.now c.self.invariant lt
    c.index_mut.ensures.value

pub invariant_of-self : goal.invariant_of-self
invariant_of-self c =
    let lt : c.args.shell < length (world_view c.self.inside).line.stations =
    subst (λ (w : WorldParts). c.args.shell < length w.line.stations) (sym c.self.view_is) c.requires in
    changed_stands fed_station (world_view c.self.inside) c.args.shell c.index_mut.result.now c.feed.new.self
    c.feed.result lt c.index_mut.ensures.value c.feed.ensures.ok c.feed.ensures.err c.self.invariant
    (act_stands (world_view c.self.inside) (Feeder c.args.shell) c.self.invariant)

pub returns-clause-ok : goal.returns-clause-ok
returns-clause-ok c =
    let lt : c.args.shell < length (world_view c.self.inside).line.stations =
    subst (λ (w : WorldParts). c.args.shell < length w.line.stations) (sym c.self.view_is) c.requires in
    changed_ok fed_station (world_view c.self.inside) c.args.self.now c.args.shell c.index_mut.result.now
    c.feed.new.self c.feed.result c.self.view_is lt c.index_mut.ensures.value c.feed.ensures.ok

pub returns-clause-did : goal.returns-clause-did
returns-clause-did c =
    let lt : c.args.shell < length (world_view c.self.inside).line.stations =
    subst (λ (w : WorldParts). c.args.shell < length w.line.stations) (sym c.self.view_is) c.requires in
    changed_did feeds (world_view c.self.inside) c.args.self.now c.args.shell c.index_mut.result.now c.feed.result
    c.self.view_is lt c.index_mut.ensures.value c.feed.ensures.did
