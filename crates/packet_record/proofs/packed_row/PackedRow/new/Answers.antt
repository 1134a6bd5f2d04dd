use Rattle.std.proofs.Common.{◌∙◌, refl, sym, arith}
use Rattle.packet_record.proofs.PackedRows.{down_parts, same_parts, up_parts}
use Rattle.packet_record.proofs.packed_row.PackedRow.new.Goals as goal

pub returns-in-Up : goal.returns-in-Up
returns-in-Up c =
    let row = c.args.row in
    let parts = up_parts row.timed.moment c.from.result (omega (arith, c.from.ensures, row.timed.packet.most)) in
    same_parts _ row refl parts.1 (parts.0 ∙ sym c.in-Up.is) (parts.2 ∙ c.from.ensures)

pub returns-in-Down : goal.returns-in-Down
returns-in-Down c =
    let row = c.args.row in
    let parts = down_parts row.timed.moment c.from.result (omega (arith, c.from.ensures, row.timed.packet.most)) in
    same_parts _ row refl parts.1 (parts.0 ∙ sym c.in-Down.is) (parts.2 ∙ c.from.ensures)
