use Rattle.std.proofs.Common.{◌≡◌}
use Rattle.mark_channel.proofs.sender.Sender.send_soon.Given as goal

abbrev pub invariant-loop-look : goal.invariant-loop-look
invariant-loop-look g l = l.self ≡ l.fn.self
