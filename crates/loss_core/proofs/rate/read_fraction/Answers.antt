use Rattle.std.proofs.Common.{◌*◌, ◌<◌, sym, ◌∙◌, arith}
use Rattle.loss_core.proofs.RateTexts.{fraction-lt}
use Rattle.loss_core.proofs.rate.read_fraction.Goals as goal

pub overflow_mul-result : goal.overflow_mul-result
overflow_mul-result c =
    let small : c.in_ok-value.value * c.pow.result < 1000000000 = fraction-lt c.args.digits.now c.in_ok-value.value
    c.pow.result (sym c.read_decimal.ensures ∙ c.in_ok-value.was) (omega arith) c.pow.ensures in
    omega arith

pub returns-clause-small : goal.returns-clause-small
returns-clause-small c = fraction-lt c.args.digits.now c.in_ok-value.value c.pow.result (sym c.read_decimal.ensures
    ∙ c.in_ok-value.was) (omega arith) c.pow.ensures
