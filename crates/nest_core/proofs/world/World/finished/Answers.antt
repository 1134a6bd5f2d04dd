use Rattle.std.proofs.Common.{◌≡◌, subst, true, rules}
use Rattle.std.proofs.lemmas.Bool.{OnTrue_from}
use Rattle.packet_record.specs.declared.item.FlowEnd.TheVariants.{Ended}
use Rattle.nest_core.specs.Promises.{IsWhole}
use Rattle.nest_core.specs.views.World.{world_view}
use Rattle.nest_core.proofs.Settling.{finished_whole, quiet_if}
use Rattle.nest_core.proofs.world.World.finished.Goals as goal

pub returns-clause-whole : goal.returns-clause-whole
returns-clause-whole c =
    OnTrue_from c.eq.result (IsWhole c.args.self.now)
    (λ (e : c.eq.result ≡ true). subst IsWhole c.self.view_is
    (finished_whole (world_view c.self.inside) c.self.invariant
    (let is : c.self.inside.collected.stream.end ≡ Ended = search rules in is)))

pub returns-clause-quiet : goal.returns-clause-quiet
returns-clause-quiet c = quiet_if (world_view c.self.inside) c.args.self.now c.eq.result c.self.view_is
    c.self.invariant (search rules) (search rules)
