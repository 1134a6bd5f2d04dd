-- What one who feeds both directions of a run has sent.
use Rattle.std.specs.Prelude.{◌≡◌, ℕ, List}
use Rattle.packet_record.specs.declared.item.FlowEnd.TheVariants.{Ended as IsOver}
use Rattle.packet_record.specs.Streams.{Stream}
use Rattle.packet_record.specs.declared.packet.Direction.{Direction}
use Rattle.packet_record.specs.declared.packet.Row.{Row}
use Rattle.packet_record.specs.Rows.{entering}
use Rattle.mark_channel.specs.declared.feeds.FeedEnd.{FeedEnd}
use Rattle.mark_channel.specs.declared.feeds.FeedEnd.TheVariants.{Ended, OutOfMemory}

-- The packets of the direction's rows up to the horizon were sent, and then the end.
abbrev pub HasSentRows : Direction → ℕ → List Row → Stream → Type 0
HasSentRows d horizon rows sent = (sent.packets ≡ entering d horizon rows) × (sent.end ≡ IsOver)

-- `p` is true where all was fed.
abbrev pub IfFed : FeedEnd → Type 0 → Type 0
IfFed Ended p = p
IfFed OutOfMemory p = Unit {0}
