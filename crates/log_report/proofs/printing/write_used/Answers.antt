use Rattle.std.proofs.Common.{rules}
use Rattle.log_report.proofs.printing.write_used.Goals as goal

pub returns-in-Some : goal.returns-in-Some
returns-in-Some c = search rules
