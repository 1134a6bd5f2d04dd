use Rattle.std.proofs.Common.{rules}
use Rattle.packet_record.proofs.reading.ScheduleReader.next.Goals as goal

pub returns-in-Err-clause-after : goal.returns-in-Err-clause-after
returns-in-Err-clause-after c = search rules

pub returns-in-Err-clause-fault : goal.returns-in-Err-clause-fault
returns-in-Err-clause-fault c = search rules
