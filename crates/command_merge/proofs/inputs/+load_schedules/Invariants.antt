use Rattle.std.proofs.Common.{length}
use Rattle.command_merge.proofs.inputs.+load_schedules.Given as goal

abbrev pub decreases-load_schedules : goal.decreases-load_schedules
decreases-load_schedules g l = length l.names.now
