use Rattle.std.proofs.Common.{rules}
use Rattle.shell_log.proofs.parser.LogParser.check.Goals as goal

pub returns-in_default-clause-err : goal.returns-in_default-clause-err
returns-in_default-clause-err c = search rules

pub returns-then-moment-self-clause-err : goal.returns-then-moment-self-clause-err
returns-then-moment-self-clause-err c = search rules

pub returns-clause-ok : goal.returns-clause-ok
returns-clause-ok c = search rules
