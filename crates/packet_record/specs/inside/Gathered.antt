-- Beside Gathered, for proofs alone: what lines of a schedule have given.
use Rattle.std.specs.Prelude.{[], Some, None}
use Rattle.packet_record.specs.declared.reading.ScheduleError.{ScheduleError}
use Rattle.packet_record.specs.Gathered.{Gathered}
use Rattle.packet_record.specs.views.Gathered.{gathered}

-- before the first line
abbrev pub none_gathered : Gathered
none_gathered = gathered [] 0 None

abbrev pub refusing : ScheduleError → Gathered → Gathered
refusing fault g = gathered g.rows g.low (Some fault)
