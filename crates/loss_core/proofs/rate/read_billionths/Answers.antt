use Rattle.loss_core.proofs.RateTexts.{three_parts}
use Rattle.loss_core.proofs.rate.read_billionths.Goals as goal

pub returns-in_default-more : goal.returns-in_default-more
returns-in_default-more c = three_parts c.args.text.now _ _ c.in-Some.rest.now c.in_default-more.field-0.now
    (rw c.in-Some.is at c.split_point.ensures) (rw c.in_default-more.is at c.split_point-2.ensures)
