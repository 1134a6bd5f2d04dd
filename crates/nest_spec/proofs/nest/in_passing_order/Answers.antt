use Rattle.std.proofs.Common.{rules}
use Rattle.nest_spec.proofs.nest.in_passing_order.Goals as goal

pub returns-then-eq : goal.returns-then-eq
returns-then-eq g c = search rules
