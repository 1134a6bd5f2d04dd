use Rattle.std.proofs.Common.{◌≡◌}
use Rattle.packet_record.specs.declared.item.FlowEnd.TheVariants.{Open}
use Rattle.mark_channel.specs.Ends.{IsSameEnd}
use Rattle.shell_cell.specs.Seats.{IsSameSeat}
use Rattle.shell_workers.proofs.draining.drain.Given as goal

abbrev pub invariant-loop : goal.invariant-loop
invariant-loop g l = (l.seat.flow.end ≡ Open) × (l.seat.flow ≡ l.to.flow)
    × IsSameEnd l.fn.to l.to × IsSameSeat l.fn.seat l.seat
