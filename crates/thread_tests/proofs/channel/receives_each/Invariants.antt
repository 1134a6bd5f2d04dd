use Rattle.std.proofs.Common.{◌≡◌}
use Rattle.packet_record.specs.declared.item.FlowEnd.TheVariants.{Open}
use Rattle.mark_channel.specs.Ends.{IsSameEnd}
use Rattle.thread_tests.proofs.channel.receives_each.Given as goal

abbrev pub invariant-loop-item : goal.invariant-loop-item
invariant-loop-item g l = (l.receiver.flow.end ≡ Open) × IsSameEnd l.fn.receiver l.receiver
