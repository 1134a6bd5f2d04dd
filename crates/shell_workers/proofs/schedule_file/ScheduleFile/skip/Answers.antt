use Rattle.std.proofs.Common.{arith}
use Rattle.shell_workers.proofs.schedule_file.ScheduleFile.skip.Goals as goal

pub overflow_add-self : goal.overflow_add-self
overflow_add-self g c = omega (arith, c.in_ok-read.ensures.short, c.pieces.invariant.reading.2)
