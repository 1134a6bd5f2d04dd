-- What the threads of a feeding leave behind.
use Rattle.std.specs.Prelude.{◌≡◌, ◌⊎◌, ℕ, List, [], map}
use Rattle.packet_record.specs.declared.item.FlowEnd.TheVariants.{Broken as IsCut}
use Rattle.packet_record.specs.Streams.{Stream}
use Rattle.packet_record.specs.declared.packet.Direction.TheVariants.{Up, Down}
use Rattle.packet_record.specs.declared.packet.Row.{Row}
use Rattle.mark_channel.specs.declared.feeds.FeedEnd.{FeedEnd}
use Rattle.mark_channel.specs.declared.feeds.FeedEnd.TheVariants.{Ended, OutOfMemory}
use Rattle.mark_channel.specs.Feedings.{HasSentRows}
use Rattle.sender_merge.specs.declared.outlet.Outlet.{Outlet}
use Rattle.sender_merge.specs.Merges.{merged_row}

-- how two threads ended together: `Ended` if both did
abbrev pub both : FeedEnd → FeedEnd → FeedEnd
both Ended b = b
both OutOfMemory b = OutOfMemory

-- the sender has sent `rows` in both directions, with their numbers in the merge
abbrev pub SentOne : ℕ → ℕ → List Row → Outlet → Type 0
SentOne horizon sender rows o = HasSentRows Up horizon (map (merged_row sender) rows) o.heads.up.flow
    × HasSentRows Down horizon (map (merged_row sender) rows) o.heads.down.flow

-- the flow was broken off with no packet in it
abbrev pub IsBrokenOff : Stream → Type 0
IsBrokenOff sent = (sent.packets ≡ []) × (sent.end ≡ IsCut)

-- the sender has sent `rows`, or both its flows were broken off with no packet in them
abbrev pub SentOrBroken : ℕ → ℕ → List Row → Outlet → Type 0
SentOrBroken horizon sender rows o =
    SentOne horizon sender rows o ⊎ (IsBrokenOff o.heads.up.flow × IsBrokenOff o.heads.down.flow)
