use Rattle.std.proofs.Common.{rules}
use Rattle.nest_spec.proofs.shell.shell_of.Goals as goal

pub returns-in-Link-clause-shell : goal.returns-in-Link-clause-shell
returns-in-Link-clause-shell c = search rules
