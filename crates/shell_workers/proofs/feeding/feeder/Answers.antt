use Rattle.std.proofs.Common.{rules}
use Rattle.shell_workers.proofs.feeding.feeder.Goals as goal

pub returns-then-is_err-clause-over : goal.returns-then-is_err-clause-over
returns-then-is_err-clause-over g c = search rules
