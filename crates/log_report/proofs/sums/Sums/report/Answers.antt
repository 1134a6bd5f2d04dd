use Rattle.std.proofs.Common.{rules}
use Rattle.log_report.proofs.sums.Sums.report.Goals as goal

pub returns : goal.returns
returns c = search rules
