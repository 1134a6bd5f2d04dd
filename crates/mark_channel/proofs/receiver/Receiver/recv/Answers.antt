use Rattle.std.proofs.Common.{rules}
use Rattle.mark_channel.proofs.receiver.Receiver.recv.Goals as goal

pub returns-in-Some-clause-flow : goal.returns-in-Some-clause-flow
returns-in-Some-clause-flow g c = search rules

pub returns-in-Some-clause-items : goal.returns-in-Some-clause-items
returns-in-Some-clause-items g c = search rules

pub loop-look-preserved : goal.loop-look-preserved
loop-look-preserved g c = search rules
