-- How far a stream has come, item by item: a stream without its packets. A flow by its parts.
use Rattle.std.specs.Prelude.{List}
use Rattle.packet_record.specs.declared.packet.Timed.{Timed}
use Rattle.packet_record.specs.declared.reach.Reach.{Reach}
use Rattle.packet_record.specs.Streams.{Stream, stream}
use Rattle.packet_record.specs.Flows.{FlowView}
use Rattle.packet_record.specs.declared.flow.Flow.TheInside.{Inside}

-- the stream of these packets that has come so far
abbrev pub stream_to : Reach → List Timed → Stream
stream_to r packets = stream packets r.bound r.end

abbrev pub flow_view : Inside → FlowView
flow_view f = record { stream = stream_to f.reach f.packets.items; spare = f.spare }
