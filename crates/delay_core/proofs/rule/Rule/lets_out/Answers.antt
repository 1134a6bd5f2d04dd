use Rattle.std.proofs.Common.{rules}
use Rattle.delay_core.proofs.rule.Rule.lets_out.Goals as goal

pub returns : goal.returns
returns c = search rules
