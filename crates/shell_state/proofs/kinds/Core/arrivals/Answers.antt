use Rattle.std.proofs.Common.{rules}
use Rattle.shell_state.proofs.kinds.Core.arrivals.Goals as goal

pub returns-in-Link : goal.returns-in-Link
returns-in-Link c = search rules

pub returns-in-Delay : goal.returns-in-Delay
returns-in-Delay c = search rules
