use Rattle.packet_record.specs.declared.packet.Direction.TheVariants.{Up, Down}
use Rattle.live_relay.proofs.Feeding.{first_way}
use Rattle.live_relay.proofs.relay_state.Relay.new.Goals as goal

pub returns : goal.returns
returns c =
    let stamps = c.new-stamps.ensures in
    let up = c.in_ok-up.ensures in
    let down = c.in_ok-down.ensures in
    record {
      stamps = record { rows = stamps.empty.0; kept = stamps.kept; refused = stamps.empty.1 };
      up = first_way c.args.nest.now Up c.in_ok-up.up up.specs up.horizon up.fed up.sent up.settled;
      down = first_way c.args.nest.now Down c.in_ok-down.down down.specs down.horizon down.fed down.sent down.settled;
    }
