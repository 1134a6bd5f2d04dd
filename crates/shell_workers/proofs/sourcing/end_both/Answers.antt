use Rattle.std.proofs.Common.{rules}
use Rattle.shell_workers.proofs.sourcing.end_both.Goals as goal

pub returns-clause-items : goal.returns-clause-items
returns-clause-items g c = search rules

pub returns-clause-over : goal.returns-clause-over
returns-clause-over g c = search rules
