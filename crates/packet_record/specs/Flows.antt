-- What contracts see of a flow.
use Rattle.std.specs.Prelude.{ℕ}
use Rattle.packet_record.specs.Streams.{Stream}

pub record FlowView : Type 0 where
  pub stream : Stream
  pub spare : ℕ
