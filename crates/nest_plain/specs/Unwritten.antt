-- Logs that aren't written out, as contracts see them: their names and entries.
use Rattle.std.specs.Prelude.{List, map}
use Rattle.shell_log.specs.declared.entry.Entry.{Entry}
use Rattle.nest_spec.specs.Walk.{NamedEntries}
use Rattle.nest_spec.specs.declared.run_result.Named.{Named}
use Rattle.nest_spec.specs.RunViews.{named_by}

-- The name and entries of a log that isn't written out.
abbrev pub unwritten_log : Named (List Entry) → NamedEntries
unwritten_log log = named_by (λ (entries : List Entry). entries) log

-- The names and entries of logs that aren't written out.
abbrev pub unwritten : List (Named (List Entry)) → List NamedEntries
unwritten logs = map unwritten_log logs
