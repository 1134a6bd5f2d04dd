use Rattle.std.proofs.Common.{arith}
use Rattle.std.proofs.lemmas.Grind.{common_steps}
use Rattle.store_files.proofs.served.text_of.Goals as goal

pub returns : goal.returns
returns c = grind (arith, common_steps)
