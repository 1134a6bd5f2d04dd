-- The rows that are marked, as contracts see them.
use Rattle.std.specs.Prelude.{List}
use Rattle.packet_record.specs.declared.packet.Row.{Row}
use Rattle.nest_spec.specs.declared.marked_rows.MarkedRows.{MarkedRows}
use Rattle.nest_spec.specs.declared.marked_rows.MarkedRows.TheVariants.{Whole, Packed}

abbrev pub rows_in : MarkedRows → List Row
rows_in (Whole rows) = rows.now
rows_in (Packed rows) = rows.now
