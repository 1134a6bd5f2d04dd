use Rattle.std.proofs.Common.{rules}
use Rattle.shell_log.proofs.line.read_opportunity.Goals as goal

pub returns : goal.returns
returns c = search rules
