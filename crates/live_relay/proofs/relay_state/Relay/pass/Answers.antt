use Rattle.live_relay.specs.Wires.{datagram_in}
use Rattle.live_relay.proofs.Feeding.{has_fed}
use Rattle.live_relay.proofs.relay_state.Relay.pass.Goals as goal

pub returns : goal.returns
returns c = λ turns current.
    let e = c.in_ok-row.ensures in
    has_fed c.args._nest.now turns c.args.moment (datagram_in c.args.buf.now c.args.got) c.in_ok-row.row c.args.self _
    current e.rows e.kept e.refused e.row c.in_ok-up.ensures c.in_ok-down.ensures
