use Rattle.std.proofs.Common.{◌≡◌}
use Rattle.packet_record.specs.declared.item.FlowEnd.TheVariants.{Open}
use Rattle.shell_cell.specs.Seats.{IsSameSeat}
use Rattle.thread_tests.proofs.cell.beside.count_takes.Given as goal

abbrev pub invariant-loop : goal.invariant-loop
invariant-loop g l = (l.seat.flow.end ≡ Open) × IsSameSeat l.fn.seat l.seat
