use Rattle.std.proofs.Common.{◌++◌, ◌∷◌, [], ap, arith, rules}
use Rattle.packet_record.specs.Packets.{bytes}
use Rattle.packet_queue.specs.Queues.{excess}
use Rattle.packet_queue.specs.View.{Queue}
use Rattle.packet_queue.proofs.Sizes.{by_head}
use Rattle.packet_queue.proofs.Limits.{few_dropped}
use Rattle.packet_queue.proofs.queue.PacketQueue.enqueue.Goals as goal

pub returns-in-DropHead-clause-few : goal.returns-in-DropHead-clause-few
returns-in-DropHead-clause-few c =
    let few = few_dropped c.self.inside.spec c.self.inside.waiting.packets.items c.args.t c.self.invariant.0 in
    let same = ap bytes (by_head c.self.inside.spec c.self.inside.waiting.packets.items c.args.t c.in-DropHead.is).1 in
    let seen = ap (λ (q : Queue). bytes (excess q.spec (q.packets ++ c.args.t ∷ []))) c.self.view_is in
    omega arith

pub returns-else-would_fit-clause-packets : goal.returns-else-would_fit-clause-packets
returns-else-would_fit-clause-packets c = search rules

pub returns-else-would_fit-clause-bytes : goal.returns-else-would_fit-clause-bytes
returns-else-would_fit-clause-bytes c = search rules
