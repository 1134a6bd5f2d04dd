-- A cell and its seats as contracts see them.
use Rattle.shell_cell.specs.declared.cell.ShellCell.TheInside.{Inside as CellInside}
use Rattle.shell_cell.specs.declared.seats.FeedSeat.TheInside.{Inside as FeedInside}
use Rattle.shell_cell.specs.declared.seats.DrainSeat.TheInside.{Inside as DrainInside}
use Rattle.shell_cell.specs.Seats.{Cell, FeedView, DrainView}
use Rattle.shell_cell.specs.views.Seats.{feed_seat, drain_seat}

-- Which cell it is, and the state that it was opened with.
abbrev pub cell_view : CellInside → Cell
cell_view c = record { table = c.turns.table.shared.table_id; opening = c.turns.table.shared.key.value }

-- The seat that feeds.
abbrev pub feed_view : FeedInside → FeedView
feed_view s = feed_seat s.seat.table_id s.seat.me.0

-- The seat that takes.
abbrev pub drain_view : DrainInside → DrainView
drain_view s = drain_seat s.seat.table_id s.seat.me.0
