use Rattle.std.proofs.Common.{◌≡◌, [], arith}
use Rattle.std.proofs.lemmas.Grind.{common_steps}
use Rattle.packet_record.specs.Packets.{moved_to}
use Rattle.packet_queue.specs.Queues.{excess}
use Rattle.packet_queue.proofs.Sizes.{queue_steps, nothing_more}
use Rattle.packet_queue.proofs.waiting.Waiting.shed.Goals as goal

pub returns-after-heads-clause-gone : goal.returns-after-heads-clause-gone
returns-after-heads-clause-gone c =
    let none : excess c.args.spec.now c.heads.self.packets.items ≡ [] = grind (arith, common_steps, queue_steps) in
    nothing_more (moved_to c.args.moment) _ _ _ c.heads.invariant.gone none
