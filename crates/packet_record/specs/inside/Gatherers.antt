-- For proofs alone: what contracts see of gathered rows.
use Rattle.std.specs.Prelude.{IfSome, length}
use Rattle.packet_record.specs.Orders.{AreWithin, IsSchedule}
use Rattle.packet_record.specs.Schedules.{IsOfLineAfter}
use Rattle.packet_record.specs.declared.gathering.ScheduleRows.TheInside.{Inside}

-- The rows are those of a schedule, none is at a later moment than the last, and a refusal is of the line behind them.
pub record CanGather (r : Inside) : Type 0 where
  pub schedule : IsSchedule r.rows.items
  pub below : AreWithin r.low r.rows.items
  pub named : IfSome r.refused (IsOfLineAfter (length r.rows.items))
