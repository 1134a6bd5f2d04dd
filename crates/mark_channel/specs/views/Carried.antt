-- What contracts see of what went through an end.
use Rattle.packet_record.specs.views.Flow.{stream_to}
use Rattle.mark_channel.specs.Carried.{Carried}
use Rattle.mark_channel.specs.declared.rule.Carried.TheInside.{Inside}

abbrev pub carried_view : Inside → Carried
carried_view c = record { flow = stream_to c.reach c.packets; items = c.items }
