use Rattle.std.proofs.Common.{rules}
use Rattle.shell_log.proofs.log.Log.add.Goals as goal

pub returns-clause-spare : goal.returns-clause-spare
returns-clause-spare c = search rules
