use Rattle.std.proofs.Common.{rules}
use Rattle.nest_spec.proofs.gathering.named_log.Goals as goal

pub returns : goal.returns
returns c = search rules
