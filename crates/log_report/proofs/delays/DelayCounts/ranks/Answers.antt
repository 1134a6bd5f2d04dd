use Rattle.std.proofs.Common.{rules}
use Rattle.log_report.proofs.delays.DelayCounts.ranks.Goals as goal

pub returns : goal.returns
returns c = search rules
