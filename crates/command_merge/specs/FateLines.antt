-- The text of a merge's fates: for each packet `SENDER LINE` and then, as in a run's, the direction and the fate.
use Rattle.std.specs.Prelude.{ℕ, ◌+◌, ◌-◌, ◌/◌, ◌%◌, ◌++◌, List, codes, decimal}
use Rattle.std.specs.List.{flat_map}
use Rattle.packet_record.specs.Printing.{direction_text}
use Rattle.nest_spec.specs.FateTexts.{fate_text}
use Rattle.nest_spec.specs.declared.fate.FateRow.{FateRow}
use Rattle.nest_spec.specs.declared.table_text.TableEntry.{TableEntry}

-- The sender of the packet with the number `id`: line `line` of sender `sender` has the number
-- `16 * (line - 1) + sender`.
abbrev pub sender_of : ℕ → ℕ
sender_of id = (id - 1) % 16 + 1

-- the line of the packet with the number `id`
abbrev pub line_of : ℕ → ℕ
line_of id = (id - 1) / 16 + 1

-- the packet of a fate in the table of a merge: its line, and its sender
abbrev pub merged_entry : FateRow → TableEntry
merged_entry row = record {
  packet = line_of row.id;
  sender = sender_of row.id;
  direction = row.direction;
  fate = row.fate;
}

-- the line of a packet
abbrev pub merged_fate_line : FateRow → List ℕ
merged_fate_line row =
    decimal (sender_of row.id) ++ codes " " ++ decimal (line_of row.id) ++ direction_text row.direction
    ++ fate_text row.fate ++ codes "\n"

-- the lines of packets, in their order
abbrev pub merged_fates_text : List FateRow → List ℕ
merged_fates_text rows = flat_map merged_fate_line rows
