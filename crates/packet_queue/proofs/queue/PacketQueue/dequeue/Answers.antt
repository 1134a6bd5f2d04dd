use Rattle.std.proofs.Common.{rules}
use Rattle.packet_queue.proofs.queue.PacketQueue.dequeue.Goals as goal

pub invariant_of-self : goal.invariant_of-self
invariant_of-self c = search rules
