use Rattle.std.proofs.Common.{rules}
use Rattle.sender_merge.proofs.merger.further_behind.Goals as goal

pub returns-then-not-is_open-clause-some : goal.returns-then-not-is_open-clause-some
returns-then-not-is_open-clause-some c = search rules

pub returns-then-not-is_open-clause-none : goal.returns-then-not-is_open-clause-none
returns-then-not-is_open-clause-none c = search rules

pub returns-in-Some-clause-some : goal.returns-in-Some-clause-some
returns-in-Some-clause-some c = search rules

pub returns-in_default-clause-some : goal.returns-in_default-clause-some
returns-in_default-clause-some c = search rules
