-- The arrivals of a link: those let in, those to come, and how many more there is room for.
use Rattle.std.specs.Prelude.{ℕ, List}
use Rattle.packet_record.specs.declared.packet.Timed.{Timed}

pub record Arriving : Type 0 where
  pub come : List Timed
  pub coming : List Timed
  pub room : ℕ
