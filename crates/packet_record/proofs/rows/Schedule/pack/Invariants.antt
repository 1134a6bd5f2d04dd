use Rattle.std.proofs.Common.{◌≡◌, take}
use Rattle.packet_record.proofs.rows.Schedule.pack.Given as goal

abbrev pub invariant-loop-row : goal.invariant-loop-row
invariant-loop-row l = l.rows.items ≡ take l.row-index l.row-items
