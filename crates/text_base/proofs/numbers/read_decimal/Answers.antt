use Rattle.std.proofs.Common.{◌∙◌, []}
use Rattle.text_base.proofs.SplitLemmas.{no_decimal, whole_decimal}
use Rattle.text_base.proofs.numbers.read_decimal.Goals as goal

pub returns-in_err-value : goal.returns-in_err-value
returns-in_err-value c = c.from_residual.ensures
    ∙ no_decimal c.args.text.now (λ n cut e. c.in_err-value.ensures.every c.args.text.now [] n cut e tt)

pub returns : goal.returns
returns c =
    c.then_some.ensures
    ∙ whole_decimal c.args.text.now c.in_ok-value.rest.now c.in_ok-value.value c.is_empty.result
    c.in_ok-value.ensures.read (λ n cut e. c.in_ok-value.ensures.every c.args.text.now [] n cut e tt)
    c.is_empty.ensures
