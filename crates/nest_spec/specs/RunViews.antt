-- Named logs as contracts see them, whatever holds the log.
use Rattle.std.specs.Prelude.{List, map}
use Rattle.shell_log.specs.View.{LogView}
use Rattle.shell_log.specs.declared.entry.Entry.{Entry}
use Rattle.nest_spec.specs.Walk.{NamedEntries, named_entries}
use Rattle.nest_spec.specs.declared.run_result.Named.{Named}

-- A log's name and its entries, which `entries` gives.
abbrev pub named_by : {A : Type 0} → (A → List Entry) → Named A → NamedEntries
named_by entries named = named_entries named.name (entries named.log)

-- The entries of a log that is written out.
abbrev pub entries_in : LogView → List Entry
entries_in log = log.entries

-- The names and entries of logs that are written out.
abbrev pub all_named : List (Named LogView) → List NamedEntries
all_named logs = map (named_by entries_in) logs
