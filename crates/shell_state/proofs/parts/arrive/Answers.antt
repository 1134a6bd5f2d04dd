use Rattle.shell_state.proofs.Answering.{follows_packet, arrives_in_order, arrives_burnt}
use Rattle.shell_state.proofs.parts.arrive.Goals as goal

pub arrive-requires-clause-order : goal.arrive-requires-clause-order
arrive-requires-clause-order c = arrives_in_order c.args.core.now c.args.fed.now c.in-Packet.t c.requires.is
    (follows_packet c.args.fed.now c.args.item c.in-Packet.t c.in-Packet.is c.requires.follows).1

pub arrive-requires-clause-burnt : goal.arrive-requires-clause-burnt
arrive-requires-clause-burnt c = arrives_burnt c.args.core.now c.args.fed.now c.in-Packet.t c.requires.is
    (follows_packet c.args.fed.now c.args.item c.in-Packet.t c.in-Packet.is c.requires.follows)
