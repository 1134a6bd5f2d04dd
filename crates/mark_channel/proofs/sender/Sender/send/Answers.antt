use Rattle.std.proofs.Common.{rules}
use Rattle.mark_channel.proofs.sender.Sender.send.Goals as goal

pub loop-preserved : goal.loop-preserved
loop-preserved g c = search rules
