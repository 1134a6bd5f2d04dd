use Rattle.std.proofs.Common.{◌++◌, ◌∷◌, ◌∙◌, ap, decimal}
use Rattle.nest_spec.specs.TableText.{direction_cell, fate_cells}
use Rattle.nest_spec.proofs.TableLemmas.{line_put}
use Rattle.nest_spec.proofs.table_text.put_line.Goals as goal

pub returns-clause-bytes : goal.returns-clause-bytes
returns-clause-bytes c =
    let name = c.args.entry in
    let sent = c.args.row.timed in
    c.put_name.ensures.bytes
    ∙ ap (λ l. decimal name.packet ++ 44 ∷ (decimal name.sender ++ (direction_cell name.direction ++ l)))
    (c.put_sent.ensures.bytes
    ∙ ap (λ l. decimal sent.moment ++ 44 ∷ (decimal sent.packet.size ++ l)) c.put_fate_cells.ensures.bytes)
    ∙ line_put (decimal name.packet) (decimal name.sender) (direction_cell name.direction) (decimal sent.moment)
    (decimal sent.packet.size) (fate_cells sent.moment name.fate) c.args.out.now
