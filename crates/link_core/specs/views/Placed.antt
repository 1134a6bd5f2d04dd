-- The packets of a link in one list: those that departed, those that are to arrive, and how many have arrived.
use Rattle.std.specs.Prelude.{ℕ, List}
use Rattle.packet_record.specs.declared.packet.Timed.{Timed}

pub record Placed : Type 0 where
  pub departed : List Timed
  pub coming : List Timed
  pub entered : ℕ
