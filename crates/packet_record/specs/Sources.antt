-- What the source sends in a direction.
use Rattle.std.specs.Prelude.{ℕ, List, [], ◌∷◌, ◌++◌, Option, Some, None, nat_le, nat_lt, option_to_list, if◌then◌else◌}
use Rattle.packet_record.specs.Rows.{goes}
use Rattle.packet_record.specs.declared.packet.Direction.{Direction}
use Rattle.packet_record.specs.declared.packet.Row.{Row}
use Rattle.packet_record.specs.declared.item.Item.{Item}
use Rattle.packet_record.specs.declared.item.Item.TheVariants.{Packet, Mark, End}

-- What a row gives where the greatest moment sent so far is this one: its packet in its own direction, and in the other
-- a mark at its moment where that is above every moment sent before. A row past the horizon gives nothing.
abbrev pub source_item : Direction → ℕ → ℕ → Row → Option Item
source_item d horizon sent row =
    if nat_le row.timed.moment horizon then (
    if goes d row.direction then Some (Packet row.timed)
    else (if nat_lt sent row.timed.moment then Some (Mark row.timed.moment) else None)
    ) else None

-- the greatest moment sent after that
abbrev pub sent_after : ℕ → Row → Option Item → ℕ
sent_after sent row None = sent
sent_after sent row (Some x) = row.timed.moment

-- what the rows give, where this much was sent before, and then the end
abbrev pub items_from : Direction → ℕ → ℕ → List Row → List Item
items_from d horizon sent [] = End ∷ []
items_from d horizon sent (row ∷ rows) =
    option_to_list (source_item d horizon sent row)
    ++ items_from d horizon (sent_after sent row (source_item d horizon sent row)) rows

-- all that is sent in a direction
abbrev pub source_items : Direction → ℕ → List Row → List Item
source_items d horizon rows = items_from d horizon 0 rows
