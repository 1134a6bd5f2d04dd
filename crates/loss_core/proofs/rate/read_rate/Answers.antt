use Rattle.std.proofs.Common.{rules}
use Rattle.loss_core.proofs.rate.read_rate.Goals as goal

pub invariant_of-result : goal.invariant_of-result
invariant_of-result c = search rules

pub returns-then-billionths-gt1000000000 : goal.returns-then-billionths-gt1000000000
returns-then-billionths-gt1000000000 c = search rules

pub returns : goal.returns
returns c = search rules
