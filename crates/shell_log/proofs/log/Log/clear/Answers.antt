use Rattle.std.proofs.Common.{rules}
use Rattle.shell_log.proofs.log.Log.clear.Goals as goal

pub invariant_of-self : goal.invariant_of-self
invariant_of-self c = search rules

pub returns-clause-entries : goal.returns-clause-entries
returns-clause-entries c = search rules
