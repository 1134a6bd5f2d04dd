use Rattle.std.proofs.Common.{rules}
use Rattle.sender_merge.proofs.looks.clears_it.Goals as goal

pub returns-then-bound-moment : goal.returns-then-bound-moment
returns-then-bound-moment c = search rules

pub returns-then-bound-moment-2 : goal.returns-then-bound-moment-2
returns-then-bound-moment-2 c = search rules
