-- Beside RowLists, for proofs alone: whether lists of rows are schedules.
use Rattle.std.specs.Prelude.{List, [], ◌∷◌}
use Rattle.packet_record.specs.declared.packet.Row.{Row}
use Rattle.packet_record.specs.Orders.{IsSchedule}

-- each list is a schedule
abbrev pub AllSchedules : List (List Row) → Type 0
AllSchedules [] = Unit {0}
AllSchedules (rows ∷ schedules) = IsSchedule rows × AllSchedules schedules
