-- For proofs alone: what contracts see of a reader of a schedule.
use Rattle.std.specs.Prelude.{◌≡◌, ◌≤◌, Some}
use Rattle.text_base.specs.declared.limits.TheConstants.{MOST_LINES}
use Rattle.packet_record.specs.declared.reading.ScheduleError.TheVariants.{OutOfMemory}
use Rattle.packet_record.specs.declared.reading.ScheduleReader.TheInside.{Inside}

-- a reader has read no more rows than a schedule may have, and never refuses for lack of memory
pub record CanRead (r : Inside) : Type 0 where
  pub few : r.rows ≤ MOST_LINES
  pub cause : r.refused ≡ Some OutOfMemory → ⊥
