use Rattle.std.proofs.Common.{rules}
use Rattle.sender_merge.proofs.feeding.both.Goals as goal

pub returns-in-Ended-default : goal.returns-in-Ended-default
returns-in-Ended-default c = search rules
