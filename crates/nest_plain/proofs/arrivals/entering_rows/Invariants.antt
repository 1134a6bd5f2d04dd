use Rattle.std.proofs.Common.{◌≡◌, take}
use Rattle.packet_record.specs.Rows.{entering}
use Rattle.nest_plain.proofs.arrivals.entering_rows.Given as goal

abbrev pub invariant-loop-row : goal.invariant-loop-row
invariant-loop-row l = l.packets.items ≡ entering l.direction l.horizon (take l.row-index l.rows)
