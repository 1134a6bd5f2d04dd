-- What was taken of the departures.
use Rattle.std.specs.Prelude.{◌+◌, ◌<◌, ◌^◌, ℕ}
use Rattle.packet_record.specs.declared.item.Item.{Item}
use Rattle.packet_record.specs.declared.item.Item.TheVariants.{Packet, Mark, End, Broken}
use Rattle.packet_record.specs.Reaches.{nowhere, reach_after}
use Rattle.shell_state.specs.declared.front.Front.{Front}

abbrev pub no_front : Front
no_front = record { count = 0; reach = nowhere }

-- a packet is the next departure
abbrev pub count_after : ℕ → Item → ℕ
count_after n (Packet t) = n + 1
count_after n (Mark m) = n
count_after n End = n
count_after n Broken = n

abbrev pub front_after : Front → Item → Front
front_after f item = record { count = count_after f.count item; reach = reach_after f.reach item }

-- the count has room for the item
abbrev pub CanCount : ℕ → Item → Type 0
CanCount n (Packet t) = n + 1 < 2 ^ 64
CanCount n (Mark m) = Unit {0}
CanCount n End = Unit {0}
CanCount n Broken = Unit {0}
