-- Senders as their callers see them.
use Rattle.std.specs.Prelude.{List}
use Rattle.packet_record.specs.declared.packet.Row.{Row}
use Rattle.sender_merge.specs.declared.senders.Senders.TheInside.{Inside}

abbrev pub senders_view : Inside → List (List Row)
senders_view s = s.schedules.items
