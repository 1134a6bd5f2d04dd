use Rattle.std.proofs.Common.{rules}
use Rattle.delay_core.proofs.rule.Rule.departure.Goals as goal

pub returns : goal.returns
returns c = search rules
