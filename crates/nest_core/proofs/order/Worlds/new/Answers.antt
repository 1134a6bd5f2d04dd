use Rattle.std.proofs.Common.{rules}
use Rattle.nest_core.proofs.order.Worlds.new.Goals as goal

pub returns-clause-is : goal.returns-clause-is
returns-clause-is c = search rules
