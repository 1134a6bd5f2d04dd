-- A bounded channel of items.
use Rattle.std.specs.Prelude.{ℕ, Bool, List, [], ◌∷◌, ◌++◌, Option, Some, None, length, nat_lt, if◌then◌else◌}
use Rattle.packet_record.specs.declared.item.Item.{Item}

-- The items that were sent and not received, the oldest first, and how many the channel may hold.
pub record ChannelParts : Type 0 where
  pub capacity : ℕ
  pub items : List Item

-- The channel of `capacity` that holds `items`.
abbrev pub holding : ℕ → List Item → ChannelParts
holding capacity items = record { capacity = capacity; items = items }

-- An empty channel.
abbrev pub new_channel : ℕ → ChannelParts
new_channel capacity = holding capacity []

-- Another item can be sent.
abbrev pub has_room : ChannelParts → Bool
has_room c = nat_lt (length c.items) c.capacity

-- The channel after `item` was sent.
abbrev pub with_last : ChannelParts → Item → ChannelParts
with_last c item = holding c.capacity (c.items ++ item ∷ [])

-- The first item, if there is one.
abbrev pub first_of : List Item → Option Item
first_of [] = None
first_of (item ∷ items) = Some item

-- The items after the first.
abbrev pub rest_of : List Item → List Item
rest_of [] = []
rest_of (item ∷ items) = items

-- The channel after its first item was received.
abbrev pub without_first : ChannelParts → ChannelParts
without_first c = holding c.capacity (rest_of c.items)

-- The channel after its first item was received, or as it was.
abbrev pub left_by : Bool → ChannelParts → ChannelParts
left_by received c = if received then without_first c else c
