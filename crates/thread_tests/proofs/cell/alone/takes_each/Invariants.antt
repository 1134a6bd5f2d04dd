use Rattle.std.proofs.Common.{◌≡◌}
use Rattle.packet_record.specs.declared.item.FlowEnd.TheVariants.{Open}
use Rattle.shell_cell.specs.Seats.{IsSameSeat}
use Rattle.thread_tests.proofs.cell.alone.takes_each.Given as goal

abbrev pub invariant-loop-answer : goal.invariant-loop-answer
invariant-loop-answer g l = (l.seat.flow.end ≡ Open) × IsSameSeat l.fn.seat l.seat
