-- What contracts see of a run's result, in either form.
use Rattle.std.specs.Prelude.{List, [], Option, Some, None}
use Rattle.packet_record.specs.declared.packet.Row.{Row}
use Rattle.nest_spec.specs.Nests.{RunLists}
use Rattle.command_run.specs.declared.passing.Passed.{Passed}
use Rattle.command_run.specs.declared.passing.Passed.TheVariants.{InPieces, Whole}

-- the fates and the logs of a run
abbrev pub passed_lists : Passed → RunLists
passed_lists (InPieces run rows) = run
passed_lists (Whole run rows) = run

-- rows that may be kept
abbrev pub rows_in : Option (List Row) → List Row
rows_in None = []
rows_in (Some rows) = rows

-- the rows of a run, if they are kept
abbrev pub passed_rows : Passed → List Row
passed_rows (InPieces run rows) = rows_in rows
passed_rows (Whole run rows) = rows_in rows
