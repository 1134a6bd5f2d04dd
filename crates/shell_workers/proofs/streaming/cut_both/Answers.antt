use Rattle.std.proofs.Common.{rules}
use Rattle.shell_workers.proofs.streaming.cut_both.Goals as goal

pub returns-clause-broken : goal.returns-clause-broken
returns-clause-broken g c = search rules
