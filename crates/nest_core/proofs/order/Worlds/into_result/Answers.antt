use Rattle.std.proofs.Common.{List, sym, subst}
use Rattle.packet_record.specs.declared.packet.Row.{Row}
use Rattle.packet_record.specs.Rows.{AreApart}
use Rattle.nest_spec.proofs.Scheduled.{apart}
use Rattle.nest_core.proofs.order.Worlds.into_result.Goals as goal

pub gather-requires-clause-apart : goal.gather-requires-clause-apart
gather-requires-clause-apart c = subst (λ (rows : List Row). AreApart rows) (sym c.rows.ensures.rows)
    (apart c.args.schedule.now c.rows.ensures.schedule.order)
