use Rattle.std.proofs.Common.{ap, refl}
use Rattle.packet_record.specs.declared.packet.Packet.{Packet}
use Rattle.packet_record.specs.declared.packet.Row.{Row}
use Rattle.packet_record.proofs.OneList.{same_packet}
use Rattle.sender_merge.proofs.outlet.merged_row.Goals as goal

row_of : Row → Packet → Row
row_of row packet = record {
  direction = row.direction;
  timed = record { moment = row.timed.moment; packet = packet };
}

pub returns : goal.returns
unfolding row_of
returns c = ap (row_of c.args.row) (same_packet _ _ refl refl)
