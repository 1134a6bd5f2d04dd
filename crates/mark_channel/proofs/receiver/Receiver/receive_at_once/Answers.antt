use Rattle.mark_channel.proofs.Keeps.{gets}
use Rattle.mark_channel.proofs.receiver.Receiver.receive_at_once.Goals as goal

pub try_recv_as-requires-clause-rule : goal.try_recv_as-requires-clause-rule
try_recv_as-requires-clause-rule g c = (gets _ _ c.self.invariant.1 c.self.invariant.2, λ items views h at. tt)
