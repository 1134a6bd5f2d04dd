use Rattle.std.proofs.Common.{rules}
use Rattle.nest_core.proofs.order.run_worlds.Goals as goal

pub returns-clause-ends : goal.returns-clause-ends
returns-clause-ends c = search rules
