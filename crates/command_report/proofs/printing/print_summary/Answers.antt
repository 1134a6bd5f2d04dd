use Rattle.std.proofs.Common.{rules}
use Rattle.command_report.proofs.printing.print_summary.Goals as goal

pub returns : goal.returns
returns c = search rules
