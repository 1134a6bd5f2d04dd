use Rattle.std.proofs.Common.{length}
use Rattle.shell_workers.proofs.running.+fn-run_stages-join_mut+arg2+run_stages.Given as goal

abbrev pub decreases-join_mut+arg2 : goal.decreases-join_mut+arg2
decreases-join_mut+arg2 g l = length l.rest.now

abbrev pub decreases-run_stages : goal.decreases-run_stages
decreases-run_stages g l = length l.list.now
