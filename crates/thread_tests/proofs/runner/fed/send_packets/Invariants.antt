use Rattle.std.proofs.Common.{◌≡◌, ◌≤◌}
use Rattle.packet_record.specs.declared.item.FlowEnd.TheVariants.{Open}
use Rattle.mark_channel.specs.Ends.{IsSameEnd}
use Rattle.thread_tests.proofs.runner.fed.send_packets.Given as goal

abbrev pub invariant-loop-row : goal.invariant-loop-row
invariant-loop-row g l = (l.up.flow.end ≡ Open) × (l.down.flow.end ≡ Open)
    × (l.up.flow.bound ≤ l.bound) × (l.down.flow.bound ≤ l.bound)
    × IsSameEnd l.fn.up l.up × IsSameEnd l.fn.down l.down
