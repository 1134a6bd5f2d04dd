-- What contracts see of a seat, by what the seat knows.
use Rattle.atomic_table.specs.Seated.{TableId}
use Rattle.shell_cell.specs.declared.view.View.{View}
use Rattle.shell_cell.specs.History.{fed_flow, taken_flow}
use Rattle.shell_cell.specs.Seats.{FeedView, DrainView}

-- The seat that feeds, at a table.
abbrev pub feed_seat : TableId → View → FeedView
feed_seat table v = record {
  turns = v.fed;
  flow = fed_flow v.fed;
  broken = v.broken;
  horizon = v.opening.horizon;
  cell = record { table = table; opening = v.opening };
}

-- The seat that takes, at a table.
abbrev pub drain_seat : TableId → View → DrainView
drain_seat table v = record {
  turns = v.drained;
  flow = taken_flow v.drained;
  broken = v.broken;
  horizon = v.opening.horizon;
  cell = record { table = table; opening = v.opening };
}
