use Rattle.std.proofs.Common.{arith}
use Rattle.std.proofs.lemmas.Grind.{common_steps}
use Rattle.text_base.proofs.printing.put_lines.Goals as goal

pub lines-preserved : goal.lines-preserved
lines-preserved g c = grind (arith, common_steps)
