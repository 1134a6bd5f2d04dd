use Rattle.std.proofs.Common.{rules}
use Rattle.command_report.proofs.run.horizon_of.Goals as goal

pub returns : goal.returns
returns c = search rules
