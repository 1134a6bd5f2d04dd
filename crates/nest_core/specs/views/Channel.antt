-- A channel as clauses see it.
use Rattle.nest_core.specs.Channels.{ChannelParts, holding}
use Rattle.nest_core.specs.declared.channel.Channel.TheInside.{Inside}

-- The items in its queue, and its capacity.
abbrev pub channel_view : Inside → ChannelParts
channel_view c = holding c.capacity c.items.items
