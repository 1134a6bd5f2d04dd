use Rattle.std.proofs.Common.{◌≡◌, ◌≤◌, ◌⊎◌, true}
use Rattle.packet_record.specs.declared.item.FlowEnd.TheVariants.{Open}
use Rattle.shell_cell.specs.Seats.{IsSameSeat}
use Rattle.thread_tests.proofs.cell.beside.feed_all.Given as goal

abbrev pub invariant-loop-number : goal.invariant-loop-number
invariant-loop-number g l = IsSameSeat l.fn.seat l.seat
    × (((l.seat.flow.end ≡ Open) × (l.seat.flow.bound ≤ l.number)) ⊎ (l.seat.broken ≡ true))
