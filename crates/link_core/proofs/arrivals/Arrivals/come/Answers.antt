use Rattle.std.proofs.Common.{rules}
use Rattle.link_core.proofs.arrivals.Arrivals.come.Goals as goal

pub returns : goal.returns
returns c = search rules
