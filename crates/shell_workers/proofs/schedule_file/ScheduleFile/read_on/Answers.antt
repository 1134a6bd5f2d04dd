use Rattle.std.proofs.Common.{arith}
use Rattle.shell_workers.proofs.schedule_file.ScheduleFile.read_on.Goals as goal

pub overflow_add-self : goal.overflow_add-self
overflow_add-self g c = omega (arith, c.in_ok-read.ensures.short, c.requires.reading.0.2)
