use Rattle.std.proofs.Common.{rules}
use Rattle.packet_record.proofs.gathering.ScheduleRows.take.Goals as goal

pub returns-then-is_refused-clause-left : goal.returns-then-is_refused-clause-left
returns-then-is_refused-clause-left c = search rules
