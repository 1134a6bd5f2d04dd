use Rattle.std.proofs.Common.{rules}
use Rattle.shell_log.proofs.whole_line.leads_with_zero.Goals as goal

pub returns-in_default-2 : goal.returns-in_default-2
returns-in_default-2 c = search rules
