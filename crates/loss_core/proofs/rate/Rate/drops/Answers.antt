use Rattle.std.proofs.Common.{rules}
use Rattle.loss_core.proofs.rate.Rate.drops.Goals as goal

pub returns : goal.returns
returns c = search rules
