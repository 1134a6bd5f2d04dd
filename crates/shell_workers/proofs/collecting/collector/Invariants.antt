use Rattle.std.proofs.Common.{◌≡◌}
use Rattle.packet_record.specs.declared.item.FlowEnd.TheVariants.{Open}
use Rattle.mark_channel.specs.Ends.{IsSameEnd}
use Rattle.shell_workers.proofs.collecting.collector.Given as goal

abbrev pub invariant-loop : goal.invariant-loop
invariant-loop g l = (l.from.flow.end ≡ Open) × IsSameEnd l.fn.from l.from
