use Rattle.std.proofs.Common.{rules}
use Rattle.loss_core.proofs.LossLaws.{arrives_stands}
use Rattle.loss_core.proofs.loss.LossCore.arrive.Goals as goal

pub returns-then-drops-clause-stands : goal.returns-then-drops-clause-stands
returns-then-drops-clause-stands g c = λ word s. arrives_stands g.W.Words.word c.args.self.now _ c.args.t word
    (search rules) s

pub returns-else-drops-clause-stands : goal.returns-else-drops-clause-stands
returns-else-drops-clause-stands g c = λ word s. arrives_stands g.W.Words.word c.args.self.now _ c.args.t word
    (search rules) s
