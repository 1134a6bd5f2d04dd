use Rattle.std.proofs.Common.{◌<◌, ◌∙◌, sym, subst, ap, length, List}
use Rattle.nest_core.specs.declared.station.Station.{Station}
use Rattle.nest_core.specs.Stations.{sent_station}
use Rattle.nest_core.specs.Worlds.{WorldParts}
use Rattle.nest_core.specs.WorldSteps.{with_stations, changed_at}
use Rattle.nest_core.specs.inside.Standing.{WorldStands}
use Rattle.nest_core.specs.inside.Does.{at_station, sends}
use Rattle.nest_core.specs.views.World.{world_view}
use Rattle.nest_core.specs.declared.actor.Actor.TheVariants.{Sender}
use Rattle.nest_core.proofs.Meeting.{act_stands}
use Rattle.nest_core.proofs.Changing.{set-changed_at, at_station-is}
use Rattle.nest_core.proofs.world.World.send.Goals as goal

pub invariant_of-self : goal.invariant_of-self
invariant_of-self c =
    let lt : c.args.shell < length (world_view c.self.inside).line.stations =
    subst (λ (w : WorldParts). c.args.shell < length w.line.stations) (sym c.self.view_is) c.requires in
    let is = set-changed_at sent_station (world_view c.self.inside).line.stations c.args.shell c.index_mut.result.now
    c.send.new.self lt c.index_mut.ensures.value c.send.ensures.after in
    subst (λ (l : List Station). WorldStands (with_stations (world_view c.self.inside) l)) (sym is)
    (act_stands (world_view c.self.inside) (Sender c.args.shell) c.self.invariant)

pub returns-clause-after : goal.returns-clause-after
returns-clause-after c =
    let lt : c.args.shell < length (world_view c.self.inside).line.stations =
    subst (λ (w : WorldParts). c.args.shell < length w.line.stations) (sym c.self.view_is) c.requires in
    let is = set-changed_at sent_station (world_view c.self.inside).line.stations c.args.shell c.index_mut.result.now
    c.send.new.self lt c.index_mut.ensures.value c.send.ensures.after in
    ap (λ (l : List Station). with_stations (world_view c.self.inside) l) is
    ∙ ap (λ (w : WorldParts). with_stations w (changed_at sent_station c.args.shell w.line.stations)) c.self.view_is

pub returns-clause-did : goal.returns-clause-did
returns-clause-did c =
    let lt : c.args.shell < length (world_view c.self.inside).line.stations =
    subst (λ (w : WorldParts). c.args.shell < length w.line.stations) (sym c.self.view_is) c.requires in
    let at = at_station-is sends (world_view c.self.inside).line.stations c.args.shell c.index_mut.result.now lt
    c.index_mut.ensures.value in
    c.send.ensures.did ∙ at ∙ ap (λ (w : WorldParts). at_station sends c.args.shell w.line.stations) c.self.view_is
