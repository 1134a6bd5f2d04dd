use Rattle.std.proofs.Common.{arith}
use Rattle.std.proofs.lemmas.Grind.{common_steps}
use Rattle.loss_core.proofs.words.ListWordsWords.next.Goals as goal

pub returns-then-self-len-clause-value : goal.returns-then-self-len-clause-value
returns-then-self-len-clause-value c = grind (arith, common_steps)
