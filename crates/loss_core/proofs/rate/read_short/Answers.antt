use Rattle.loss_core.proofs.RateTexts.{decimal_of-small}
use Rattle.loss_core.proofs.rate.read_short.Goals as goal

pub returns-clause-small : goal.returns-clause-small
returns-clause-small c = decimal_of-small c.args.digits.now _ c.read_decimal.ensures
