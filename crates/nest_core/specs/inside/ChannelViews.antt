-- For proofs alone: what is true of every channel.
use Rattle.std.specs.Prelude.{◌≤◌}
use Rattle.std.specs.VecDeque.{deque_capacity}
use Rattle.nest_core.specs.declared.channel.Channel.TheInside.{Inside}

-- The queue has room for all items that the channel may hold.
abbrev pub HasPlaces : Inside → Type 0
HasPlaces c = c.capacity ≤ deque_capacity c.items
