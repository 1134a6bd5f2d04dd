use Rattle.std.proofs.Common.{rules}
use Rattle.nest_plain.proofs.plain.run_direction.Goals as goal

pub returns-clause-fates : goal.returns-clause-fates
returns-clause-fates c = search rules

pub returns-clause-logs : goal.returns-clause-logs
returns-clause-logs c = search rules

pub returns-clause-built : goal.returns-clause-built
returns-clause-built c = search rules
