-- How far a stream has come, item by item: a stream without its packets.
use Rattle.std.specs.Prelude.{◌≡◌}
use Rattle.packet_record.specs.declared.item.Item.{Item}
use Rattle.packet_record.specs.declared.item.Item.TheVariants.{Packet, Mark, End, Broken}
use Rattle.packet_record.specs.declared.item.FlowEnd.TheVariants.{Open, Ended, Broken as Cut}
use Rattle.packet_record.specs.declared.reach.Reach.{Reach}
use Rattle.packet_record.specs.Streams.{IsFrom}

abbrev pub nowhere : Reach
nowhere = record { bound = 0; end = Open }

abbrev pub IsNext : Reach → Item → Type 0
IsNext r x = (r.end ≡ Open) × IsFrom r.bound x

abbrev pub reach_after : Reach → Item → Reach
reach_after r (Packet t) = record { bound = t.moment; end = r.end }
reach_after r (Mark m) = record { bound = m; end = r.end }
reach_after r End = record { bound = r.bound; end = Ended }
reach_after r Broken = record { bound = r.bound; end = Cut }
