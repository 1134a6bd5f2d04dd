use Rattle.std.proofs.Common.{rules}
use Rattle.sender_merge.proofs.feeding.feed_gates.Goals as goal

pub returns-clause-sent : goal.returns-clause-sent
returns-clause-sent g c = search rules

pub returns-clause-merged : goal.returns-clause-merged
returns-clause-merged g c = search rules

pub returns-clause-closed : goal.returns-clause-closed
returns-clause-closed g c = search rules

pub returns-clause-over : goal.returns-clause-over
returns-clause-over g c = search rules

pub returns-clause-same_gates : goal.returns-clause-same_gates
returns-clause-same_gates g c = search rules

pub returns-clause-same : goal.returns-clause-same
returns-clause-same g c = search rules
