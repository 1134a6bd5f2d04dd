use Rattle.std.proofs.Common.{arith}
use Rattle.std.proofs.lemmas.Grind.{common_steps}
use Rattle.link_core.proofs.serving.serve.Goals as goal

pub packets-preserved : goal.packets-preserved
packets-preserved c = grind (arith, common_steps)

pub packets-init : goal.packets-init
packets-init c = grind (arith, common_steps)
