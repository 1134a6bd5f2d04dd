use Rattle.std.proofs.Common.{rules}
use Rattle.trace_reader.proofs.reading.opportunity_of.Goals as goal

pub returns-clause-order : goal.returns-clause-order
returns-clause-order c = search rules

pub returns-clause-fault : goal.returns-clause-fault
returns-clause-fault c = search rules

pub returns-then-moment-low-clause-fault : goal.returns-then-moment-low-clause-fault
returns-then-moment-low-clause-fault c = search rules

pub invariant_of-result : goal.invariant_of-result
invariant_of-result c = search rules

pub returns-in_default-clause-fault : goal.returns-in_default-clause-fault
returns-in_default-clause-fault c = search rules

pub returns-then-bytes-lt1-clause-fault : goal.returns-then-bytes-lt1-clause-fault
returns-then-bytes-lt1-clause-fault c = search rules
