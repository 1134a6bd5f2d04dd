use Rattle.std.proofs.Common.{◌≡◌, drop}
use Rattle.packet_record.specs.Streams.{after_all, AllFollow}
use Rattle.live_relay.specs.inside.Meeting.{IsSameShell, packet_items}
use Rattle.live_relay.proofs.passing.feed_packets.Given as goal

abbrev pub invariant-loop-packet : goal.invariant-loop-packet
invariant-loop-packet l = record {
  same : IsSameShell l.initial.state l.state;
  taken : l.state.taken ≡ l.initial.state.taken;
  follow : AllFollow l.state.horizon l.state.fed (packet_items (drop l.packet-index l.packets));
  fed : after_all l.state.fed (packet_items (drop l.packet-index l.packets))
      ≡ after_all l.initial.state.fed (packet_items l.packets);
}
