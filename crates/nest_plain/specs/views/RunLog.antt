-- A log that isn't written out, as contracts see it.
use Rattle.std.specs.Prelude.{List}
use Rattle.shell_log.specs.declared.entry.Entry.{Entry}
use Rattle.nest_plain.specs.declared.run_log.LogSource.{LogSource}
use Rattle.nest_plain.specs.declared.run_log.LogSource.TheVariants.{Kept, First}
use Rattle.nest_plain.specs.declared.run_log.RunLog.TheInside.{Inside}
use Rattle.nest_plain.specs.views.Arrivals.{entries_by}

-- The entries, wherever the arrivals are.
abbrev pub entries_of : LogSource → List Entry
entries_of (Kept log) = log
entries_of (First log) = entries_by log.spec log.arrivals

abbrev pub log_view : Inside → List Entry
log_view log = entries_of log.source
