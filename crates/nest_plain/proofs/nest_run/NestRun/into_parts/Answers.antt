use Rattle.std.proofs.Common.{rules}
use Rattle.nest_plain.proofs.nest_run.NestRun.into_parts.Goals as goal

pub returns-clause-logs : goal.returns-clause-logs
returns-clause-logs c = search rules
