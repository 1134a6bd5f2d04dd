use Rattle.std.proofs.Common.{◌≡◌, ◌⊎◌, true}
use Rattle.packet_record.specs.declared.item.FlowEnd.TheVariants.{Open}
use Rattle.mark_channel.specs.Ends.{IsSameEnd}
use Rattle.shell_cell.specs.Seats.{IsSameSeat}
use Rattle.shell_workers.proofs.feeding.feeder.Given as goal

abbrev pub invariant-loop : goal.invariant-loop
invariant-loop g l = (l.from.flow.end ≡ Open) × (l.seat.flow.end ≡ Open)
    × ((l.seat.flow ≡ l.from.flow) ⊎ (l.seat.broken ≡ true))
    × IsSameEnd l.fn.from l.from × IsSameSeat l.fn.seat l.seat
