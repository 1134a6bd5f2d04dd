-- What a reader of a schedule has come to.
use Rattle.std.specs.Prelude.{ℕ, ◌+◌, List, Option, None}
use Rattle.text_base.specs.Refusals.{or_later}
use Rattle.packet_record.specs.Schedules.{first_fault}
use Rattle.packet_record.specs.declared.reading.ScheduleError.{ScheduleError}

-- how many rows it has read, the moment of the last (0 at first), and its refusal
pub record Reading : Type 0 where
  pub rows : ℕ
  pub low : ℕ
  pub refused : Option ScheduleError

abbrev pub reading : ℕ → ℕ → Option ScheduleError → Reading
reading rows low refused = record { rows = rows; low = low; refused = refused }

-- before the first line
abbrev pub nothing_read : Reading
nothing_read = reading 0 0 None

-- the first refusal of all lines, where these are still to come; over nothing_read that of a whole text's lines
abbrev pub fault_from : Reading → List (List ℕ) → Option ScheduleError
fault_from r lines = or_later r.refused (first_fault (r.rows + 1) r.low lines)
