-- How many packets were added and not given.
use Rattle.std.specs.Prelude.{ℕ, ◌+◌, ◌-◌, List, [], ◌∷◌, length}
use Rattle.packet_record.specs.declared.item.Item.{Item}
use Rattle.packet_record.specs.declared.item.Item.TheVariants.{Packet, Mark, End, Broken}
use Rattle.sender_merge.specs.Inflows.{Inflow}

-- how many packets of all senders were added and not given
abbrev pub left_of : List Inflow → ℕ
left_of [] = 0
left_of (s ∷ senders) = (length s.flow.packets - s.passed) + left_of senders

-- how many packets an item is: 1 or 0
abbrev pub packets_in : Item → ℕ
packets_in (Packet t) = 1
packets_in (Mark m) = 0
packets_in End = 0
packets_in Broken = 0
