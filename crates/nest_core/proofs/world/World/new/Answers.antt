use Rattle.std.proofs.Common.{sym, subst, refl}
use Rattle.packet_record.proofs.RowsLemmas.{rises-in_order}
use Rattle.nest_spec.specs.Nests.{directions_of}
use Rattle.nest_core.specs.Worlds.{WorldParts}
use Rattle.nest_core.specs.Promises.{IsRunOf}
use Rattle.nest_core.specs.inside.Standing.{WorldStands}
use Rattle.nest_core.proofs.Beginning.{made_is, new_run, new_world_stands}
use Rattle.nest_core.proofs.world.World.new.Goals as goal

pub invariant_of-result : goal.invariant_of-result
invariant_of-result c =
    let h = c.horizon-horizon.result in
    let specs = directions_of c.args.direction c.args.nest.now in
    let is = made_is c.args.direction c.args.schedule.now c.rows.result.now specs h h c.args.capacity c.new.result
    c.in_ok-new.field-0 c.in_ok-stations.stations.items c.new-3.result.stream
    refl c.rows.ensures.rows c.new.ensures c.in_ok-new.ensures c.in_ok-stations.ensures.is c.new-3.ensures.0 in
    subst WorldStands (sym is)
    (new_world_stands c.args.direction c.args.schedule.now specs h c.args.capacity c.requires.some
    (rises-in_order 1 0 c.args.schedule.now c.rows.ensures.schedule.order)
    c.in_ok-stations.ensures.stand c.in_ok-stations.ensures.few)

pub returns-clause-run : goal.returns-clause-run
returns-clause-run c =
    let h = c.horizon-horizon.result in
    let specs = directions_of c.args.direction c.args.nest.now in
    let is = made_is c.args.direction c.args.schedule.now c.rows.result.now specs h c.args.nest.now.horizon
    c.args.capacity c.new.result c.in_ok-new.field-0 c.in_ok-stations.stations.items
    c.new-3.result.stream c.horizon-horizon.ensures.value c.rows.ensures.rows c.new.ensures c.in_ok-new.ensures
    c.in_ok-stations.ensures.is c.new-3.ensures.0 in
    subst (λ (w : WorldParts). IsRunOf c.args.nest.now c.args.direction c.args.schedule.now w) (sym is)
    (new_run c.args.nest.now c.args.direction c.args.schedule.now c.args.capacity)
