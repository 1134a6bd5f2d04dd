-- What lines of a schedule have given.
use Rattle.std.specs.Prelude.{ℕ, List, Option}
use Rattle.packet_record.specs.declared.packet.Row.{Row}
use Rattle.packet_record.specs.declared.reading.ScheduleError.{ScheduleError}
use Rattle.packet_record.specs.Gathered.{Gathered}

abbrev pub gathered : List Row → ℕ → Option ScheduleError → Gathered
gathered rows low refused = record { rows = rows; low = low; refused = refused }
