use Rattle.std.proofs.Common.{rules}
use Rattle.packet_record.proofs.reading.row_of.Goals as goal

pub returns-clause-order : goal.returns-clause-order
returns-clause-order c = search rules

pub returns-clause-fault : goal.returns-clause-fault
returns-clause-fault c = search rules

pub returns-in_default-clause-fault : goal.returns-in_default-clause-fault
returns-in_default-clause-fault c = search rules

pub returns-clause-few : goal.returns-clause-few
returns-clause-few c = search rules

pub invariant_of-packet : goal.invariant_of-packet
invariant_of-packet c = search rules
