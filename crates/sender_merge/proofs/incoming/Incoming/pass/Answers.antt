use Rattle.std.proofs.Common.{rules}
use Rattle.sender_merge.proofs.incoming.Incoming.pass.Goals as goal

pub returns-then-self-len : goal.returns-then-self-len
returns-then-self-len c = search rules
