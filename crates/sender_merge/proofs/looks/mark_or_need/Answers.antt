use Rattle.std.proofs.Common.{rules}
use Rattle.sender_merge.proofs.looks.mark_or_need.Goals as goal

pub returns-in-Some : goal.returns-in-Some
returns-in-Some c = search rules
