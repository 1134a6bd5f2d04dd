use Rattle.std.proofs.Common.{rules}
use Rattle.packet_record.proofs.reading.ScheduleError.line.Goals as goal

pub returns-in-BadLine : goal.returns-in-BadLine
returns-in-BadLine c = search rules
