-- Beside Promises, for proofs alone: words for what a link promises of arrivals and opportunities to come.
use Rattle.std.specs.Prelude.{◌≡◌, ◌++◌, ℕ, List}
use Rattle.packet_record.specs.declared.packet.Timed.{Timed}
use Rattle.packet_record.specs.Moments.{AreFrom}

-- the first list is the second followed by packets at this moment or later
pub record Extends (longer shorter : List Timed) (low : ℕ) : Type 0 where
  pub more : List Timed
  pub is : longer ≡ shorter ++ more
  pub later : AreFrom low more
