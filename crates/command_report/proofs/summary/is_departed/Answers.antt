use Rattle.std.proofs.Common.{rules}
use Rattle.command_report.proofs.summary.is_departed.Goals as goal

pub returns-in-Departed : goal.returns-in-Departed
returns-in-Departed c = search rules
