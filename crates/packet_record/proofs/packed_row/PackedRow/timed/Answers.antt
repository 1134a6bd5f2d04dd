use Rattle.std.proofs.Common.{ap}
use Rattle.packet_record.specs.declared.packet.Row.{Row}
use Rattle.packet_record.proofs.PackedRows.{same_timed}
use Rattle.packet_record.proofs.packed_row.PackedRow.timed.Goals as goal

pub returns : goal.returns
returns c =
    same_timed _ c.args.self.now.timed c.moment.ensures
    (ap (λ (r : Row). r.timed.packet.id) c.self.view_is) (ap (λ (r : Row). r.timed.packet.size) c.self.view_is)
