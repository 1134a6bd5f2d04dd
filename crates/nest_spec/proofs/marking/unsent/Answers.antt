use Rattle.std.proofs.Common.{rules}
use Rattle.nest_spec.proofs.marking.unsent.Goals as goal

pub returns : goal.returns
returns c = search rules
