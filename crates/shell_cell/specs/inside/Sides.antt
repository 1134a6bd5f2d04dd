-- For proofs alone: what is true of each seat between two calls.
use Rattle.std.specs.Prelude.{◌≡◌, [], None}
use Rattle.shell_cell.specs.declared.view.SeatRole.TheVariants.{Feeder, Drain}
use Rattle.shell_cell.specs.declared.seats.FeedSeat.TheInside.{Inside as FeedInside}
use Rattle.shell_cell.specs.declared.seats.DrainSeat.TheInside.{Inside as DrainInside}

-- The seat is the feeder's, and has neither the turn nor a slot.
pub record IsFeedSeat (s : FeedInside) : Type 0 where
  pub role : s.seat.me.0.role ≡ Feeder
  pub free : s.seat.me.0.note ≡ None
  pub carries : s.seat.me.1 ≡ []

-- The seat is the drain's, and has neither the turn nor a slot.
pub record IsDrainSeat (s : DrainInside) : Type 0 where
  pub role : s.seat.me.0.role ≡ Drain
  pub free : s.seat.me.0.note ≡ None
  pub carries : s.seat.me.1 ≡ []
