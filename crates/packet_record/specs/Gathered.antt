-- What lines of a schedule have given.
use Rattle.std.specs.Prelude.{◌≡◌, ◌≢◌, ℕ, ◌+◌, List, ◌++◌, length, Option, Some, None}
use Rattle.text_base.specs.Refusals.{or_later}
use Rattle.packet_record.specs.Schedules.{AreRows, first_fault}
use Rattle.packet_record.specs.declared.packet.Row.{Row}
use Rattle.packet_record.specs.declared.reading.ScheduleError.{ScheduleError}
use Rattle.packet_record.specs.declared.reading.ScheduleError.TheVariants.{OutOfMemory}

-- the rows, the moment of the last (0 at first), and the first refusal
pub record Gathered : Type 0 where
  pub rows : List Row
  pub low : ℕ
  pub refused : Option ScheduleError

-- Of all lines only these are still to come: whatever rows are theirs, the rows of all are those so far and these, and
-- the first refusal of all is that so far, or else theirs.
pub record Awaits (all rest : List (List ℕ)) (g : Gathered) : Type 0 where
  pub rows_are : g.refused ≡ None → (more : List Row) → AreRows (length g.rows + 1) g.low rest more
      → AreRows 1 0 all (g.rows ++ more)
  pub fault_is : g.refused ≢ Some OutOfMemory
      → first_fault 1 0 all ≡ or_later g.refused (first_fault (length g.rows + 1) g.low rest)
