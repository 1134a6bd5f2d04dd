use Rattle.std.proofs.Common.{◌≡◌}
use Rattle.mark_channel.proofs.sender.Sender.send.Given as goal

abbrev pub invariant-loop : goal.invariant-loop
invariant-loop g l = l.self ≡ l.fn.self
