-- The stream that a list of items makes, item by item.
use Rattle.std.specs.Prelude.{◌≡◌, ◌≤◌, ◌+◌, ◌⊎◌, ℕ, List, [], ◌∷◌, ◌++◌}
use mathlib.Core.List.{IsPrefix}
use Rattle.packet_record.specs.declared.packet.Timed.{Timed}
use Rattle.packet_record.specs.declared.item.Item.{Item}
use Rattle.packet_record.specs.declared.item.Item.TheVariants.{Packet, Mark, End, Broken}
use Rattle.packet_record.specs.declared.item.FlowEnd.{FlowEnd}
use Rattle.packet_record.specs.declared.item.FlowEnd.TheVariants.{Open, Ended, Broken as Cut}

-- What a stream of items was: its packets in order, the greatest moment that any item named (0 at first), and how it
-- ended.
pub record Stream : Type 0 where
  pub packets : List Timed
  pub bound : ℕ
  pub end : FlowEnd

abbrev pub stream : List Timed → ℕ → FlowEnd → Stream
stream packets bound end = record { packets = packets; bound = bound; end = end }

abbrev pub no_items : Stream
no_items = stream [] 0 Open

-- the stream after one more item
abbrev pub after : Stream → Item → Stream
after f (Packet t) = stream (f.packets ++ t ∷ []) t.moment f.end
after f (Mark m) = stream f.packets m f.end
after f End = stream f.packets f.bound Ended
after f Broken = stream f.packets f.bound Cut

-- the stream after all items of a list
abbrev pub after_all : Stream → List Item → Stream
after_all f [] = f
after_all f (x ∷ xs) = after_all (after f x) xs

-- the item names no moment below this one
abbrev pub IsFrom : ℕ → Item → Type 0
IsFrom bound (Packet t) = bound ≤ t.moment
IsFrom bound (Mark m) = bound ≤ m
IsFrom bound End = Unit {0}
IsFrom bound Broken = Unit {0}

-- a packet is up to the horizon, and a mark up to the horizon plus 1
abbrev pub IsUpTo : ℕ → Item → Type 0
IsUpTo horizon (Packet t) = t.moment ≤ horizon
IsUpTo horizon (Mark m) = m ≤ horizon + 1
IsUpTo horizon End = Unit {0}
IsUpTo horizon Broken = Unit {0}

abbrev pub MayFollow : Stream → Item → Type 0
MayFollow f x = (f.end ≡ Open) × IsFrom f.bound x

-- each item of the list may follow what is before it, and is within the horizon
abbrev pub AllFollow : ℕ → Stream → List Item → Type 0
AllFollow horizon f [] = Unit {0}
AllFollow horizon f (x ∷ xs) = MayFollow f x × IsUpTo horizon x × AllFollow horizon (after f x) xs

-- f is a prefix of g
abbrev pub IsStreamPrefix : Stream → Stream → Type 0
IsStreamPrefix f g = IsPrefix f.packets g.packets × (f.bound ≤ g.bound) × ((f.end ≡ Open) ⊎ (f ≡ g))
