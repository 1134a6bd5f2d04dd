use Rattle.std.proofs.Common.{◌≡◌, ◌≤◌}
use Rattle.packet_record.specs.declared.item.FlowEnd.TheVariants.{Open}
use Rattle.mark_channel.specs.Ends.{IsSameEnd}
use Rattle.thread_tests.proofs.channel.send_all.Given as goal

abbrev pub invariant-loop-number : goal.invariant-loop-number
invariant-loop-number g l = (l.sender.flow.end ≡ Open) × (l.sender.flow.bound ≤ l.number)
    × IsSameEnd l.fn.sender l.sender
