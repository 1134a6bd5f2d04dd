-- A sender as its callers see it.
use Rattle.packet_record.specs.Streams.{stream}
use Rattle.sender_merge.specs.Inflows.{Inflow, inflow}
use Rattle.sender_merge.specs.declared.incoming.Incoming.TheInside.{Inside}

abbrev pub inflow_view : Inside → Inflow
inflow_view s = inflow (stream s.packets.items s.reach.bound s.reach.end) s.passed
