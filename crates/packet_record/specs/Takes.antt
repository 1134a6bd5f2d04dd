-- What an item costs.
use Rattle.std.specs.Prelude.{◌≡◌, ◌-◌, ◌≤◌, ℕ}
use Rattle.packet_record.specs.declared.item.Item.{Item}
use Rattle.packet_record.specs.declared.item.Item.TheVariants.{Packet, Mark, End, Broken}

abbrev pub spare_after : ℕ → Item → ℕ
spare_after n (Packet t) = n - 1
spare_after n (Mark m) = n
spare_after n End = n
spare_after n Broken = n

abbrev pub NeedsRoom : ℕ → Item → Type 0
NeedsRoom n (Packet t) = n ≡ 0
NeedsRoom n (Mark m) = ⊥
NeedsRoom n End = ⊥
NeedsRoom n Broken = ⊥

abbrev pub IsPacket : Item → Type 0
IsPacket (Packet t) = Unit {0}
IsPacket (Mark m) = ⊥
IsPacket End = ⊥
IsPacket Broken = ⊥

-- there is room for the item
abbrev pub HasRoomFor : ℕ → Item → Type 0
HasRoomFor n (Packet t) = 1 ≤ n
HasRoomFor n (Mark m) = Unit {0}
HasRoomFor n End = Unit {0}
HasRoomFor n Broken = Unit {0}
