-- The files that a run through a nest writes.
use Rattle.std.specs.Prelude.{ℕ, List, [], ◌∷◌, ◌++◌, Option, Some, None, map}
use Rattle.std.specs.List.{flat_map}
use Rattle.packet_record.specs.declared.packet.Row.{Row}
use Rattle.shell_log.specs.LogText.{log_text}
use Rattle.nest_spec.specs.FateTexts.{fate_line}
use Rattle.nest_spec.specs.Nests.{RunLists}
use Rattle.nest_spec.specs.TableText.{run_entry, table_by}
use Rattle.nest_spec.specs.Walk.{NamedEntries}
use Rattle.nest_spec.specs.declared.table_text.TableEntry.{TableEntry}
use Rattle.command_ends.specs.Causes.{Text}
use Rattle.command_ends.specs.Outputs.{NamedText, named_text}

-- the file of a log
abbrev pub log_file : NamedEntries → NamedText
log_file log = named_text log.name (log_text log.entries)

-- the file of a text, if there is a name for it
abbrev pub file_if : Option Text → List ℕ → List NamedText
file_if None text = []
file_if (Some name) text = named_text name text ∷ []

-- the files of packets: of their table, if one is asked for, and then of their fates; `row` tells the row of each of the
-- first list, `entry` and `line` the packet in the table and the line of each of the second
abbrev pub packet_files_by : {R A : Type 0} → (R → Row) → (A → TableEntry) → (A → List ℕ) → Option Text → Text → List R → List A
    → List NamedText
packet_files_by row entry line table out rows fates =
    file_if table (table_by row entry rows fates) ++ named_text out (flat_map line fates) ∷ []

-- the files of packets with these rows and fates
abbrev pub packet_files : {A : Type 0} → (A → TableEntry) → (A → List ℕ) → Option Text → Text → List Row → List A
    → List NamedText
packet_files entry line table out rows fates = packet_files_by (λ (row : Row). row) entry line table out rows fates

-- the files of a run of `rows`: of each log that has a name, in the order of the shells, up before down; then of the
-- table, if one is asked for; and then of the fates
abbrev pub run_files : Option Text → Text → List Row → RunLists → List NamedText
run_files table out rows run = map log_file run.logs ++ packet_files run_entry fate_line table out rows run.fates
