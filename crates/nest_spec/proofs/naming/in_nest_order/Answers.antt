use Rattle.std.proofs.Common.{arith}
use Rattle.std.proofs.lemmas.Grind.{common_steps}
use Rattle.nest_spec.proofs.naming.in_nest_order.Goals as goal

pub loop-down-preserved : goal.loop-down-preserved
loop-down-preserved g c = grind (arith, common_steps)
