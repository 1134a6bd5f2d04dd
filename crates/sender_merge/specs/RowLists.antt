-- The rows of several schedules.
use Rattle.std.specs.Prelude.{ℕ, ◌+◌, List, [], ◌∷◌, length}
use Rattle.packet_record.specs.declared.packet.Row.{Row}

-- how many rows the schedules have in all
abbrev pub rows_in : List (List Row) → ℕ
rows_in [] = 0
rows_in (rows ∷ schedules) = length rows + rows_in schedules
