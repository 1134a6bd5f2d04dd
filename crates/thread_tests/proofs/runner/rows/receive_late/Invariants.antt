use Rattle.std.proofs.Common.{◌≡◌}
use Rattle.packet_record.specs.declared.item.FlowEnd.TheVariants.{Open}
use Rattle.thread_tests.proofs.runner.rows.receive_late.Given as goal

abbrev pub invariant-loop : goal.invariant-loop
invariant-loop g l = l.from.flow.end ≡ Open
