use Rattle.std.proofs.Common.{rules}
use Rattle.delay_core.proofs.delay.DelayCore.arrivals.Goals as goal

pub returns : goal.returns
returns c = search rules
