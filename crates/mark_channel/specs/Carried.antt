-- What went through an end.
use Rattle.std.specs.Prelude.{List}
use Rattle.packet_record.specs.declared.item.Item.{Item}
use Rattle.packet_record.specs.Streams.{Stream}

-- The stream, and its items, marks included.
pub record Carried : Type 0 where
  pub flow : Stream
  pub items : List Item
