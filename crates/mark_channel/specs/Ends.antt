-- The two ends of a channel as contracts see them.
use Rattle.std.specs.Prelude.{◌≡◌, ℕ, List}
use Rattle.atomic_table.specs.Seated.{TableId}
use Rattle.atomic_table.specs.declared.badge.Badge.{Badge}
use Rattle.crossbeam_channel.specs.declared.flavors.array.Key.{Key}
use Rattle.packet_record.specs.declared.item.Item.{Item}
use Rattle.packet_record.specs.Streams.{Stream}

-- Which channel it is.
pub record Channel : Type 0 where
  pub table : TableId
  pub key : Badge (Key Item)

-- What went through the end, as a stream and item by item, the horizon in milliseconds, and the channel.
pub record End : Type 0 where
  pub flow : Stream
  pub items : List Item
  pub horizon : ℕ
  pub channel : Channel

-- The end has the same horizon and channel.
abbrev pub IsSameEnd : End → End → Type 0
IsSameEnd old new = (new.horizon ≡ old.horizon) × (new.channel ≡ old.channel)
