-- The text of a table of packets: comma-separated values, a first line that names the columns, and a line for each
-- packet. Lines end in a line feed. A cell that doesn't apply is empty.
use Rattle.std.specs.Prelude.{ℕ, ◌-◌, ◌++◌, List, [], ◌∷◌, codes, decimal}
use Rattle.packet_record.specs.declared.packet.Direction.{Direction}
use Rattle.packet_record.specs.declared.packet.Direction.TheVariants.{Up, Down}
use Rattle.packet_record.specs.declared.packet.Row.{Row}
use Rattle.nest_spec.specs.declared.fate.Fate.{Fate}
use Rattle.nest_spec.specs.declared.fate.Fate.TheVariants as fates
use Rattle.nest_spec.specs.declared.fate.FateRow.{FateRow}
use Rattle.nest_spec.specs.declared.table_text.TableEntry.{TableEntry}

-- The packet of a run's fate, which one sender sends.
abbrev pub run_entry : FateRow → TableEntry
run_entry row = record { packet = row.id; sender = 1; direction = row.direction; fate = row.fate }

-- The names of the columns.
abbrev pub table_header : List ℕ
table_header = codes "packet,sender,direction,sent_ms,size_bytes,fate,shell,moment_ms,delay_ms\n"

-- The cell of a direction, between two commas.
abbrev pub direction_cell : Direction → List ℕ
direction_cell Up = codes ",up,"
direction_cell Down = codes ",down,"

-- The last four cells of a packet that was sent at `sent`, behind a comma: its fate; the shell that dropped it or has
-- it inside; the moment at which it departed or was dropped; and for one that departed, its delay since it was sent.
abbrev pub fate_cells : ℕ → Fate → List ℕ
fate_cells sent (fates.Departed moment) =
    codes ",departed,," ++ decimal moment ++ codes "," ++ decimal (moment - sent) ++ codes "\n"
fate_cells sent (fates.Dropped shell moment) =
    codes ",dropped," ++ decimal shell ++ codes "," ++ decimal moment ++ codes ",\n"
fate_cells sent (fates.Inside shell) = codes ",inside," ++ decimal shell ++ codes ",,\n"
fate_cells sent fates.Unsent = codes ",unsent,,,\n"

-- The line of a packet, with its line feed. 44 is a comma.
abbrev pub table_line : Row → TableEntry → List ℕ
table_line row entry =
    decimal entry.packet ++ 44 ∷ (decimal entry.sender ++ (direction_cell entry.direction
    ++ (decimal row.timed.moment ++ 44 ∷ (decimal row.timed.packet.size
    ++ fate_cells row.timed.moment entry.fate))))

-- The lines of rows and their fates, in their order. `row` tells the row of each of the first, and `entry` the packet of
-- each of the second.
abbrev pub table_lines : {R A : Type 0} → (R → Row) → (A → TableEntry) → List R → List A → List ℕ
table_lines row entry [] list = []
table_lines row entry (first ∷ rows) [] = []
table_lines row entry (first ∷ rows) (fate ∷ list) =
    table_line (row first) (entry fate) ++ table_lines row entry rows list

-- The text of a table, by the same functions.
abbrev pub table_by : {R A : Type 0} → (R → Row) → (A → TableEntry) → List R → List A → List ℕ
table_by row entry rows list = table_header ++ table_lines row entry rows list

-- The text of the table of rows and their fates.
abbrev pub table_text : {A : Type 0} → (A → TableEntry) → List Row → List A → List ℕ
table_text entry rows list = table_by (λ (row : Row). row) entry rows list
