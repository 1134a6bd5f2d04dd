use Rattle.std.proofs.Common.{rules}
use Rattle.loss_core.proofs.words.ChaWords.new.Goals as goal

pub returns : goal.returns
returns c = search rules
