use Rattle.std.proofs.Common.{arith}
use Rattle.text_base.proofs.FrontLemmas.{some_counted}
use Rattle.text_base.proofs.front_digits.count_digits.Goals as goal

pub returns-else-others-eq0-clause-few : goal.returns-else-others-eq0-clause-few
returns-else-others-eq0-clause-few c =
    let others = c.mark_others-others in
    (some_counted c.args.text.now others.result (omega arith) others.ensures (λ e. omega (arith, e))).few

pub returns-else-others-eq0-clause-digits : goal.returns-else-others-eq0-clause-digits
returns-else-others-eq0-clause-digits c =
    let others = c.mark_others-others in
    (some_counted c.args.text.now others.result (omega arith) others.ensures (λ e. omega (arith, e))).digits

pub returns-else-others-eq0-clause-stops : goal.returns-else-others-eq0-clause-stops
returns-else-others-eq0-clause-stops c =
    let others = c.mark_others-others in
    (some_counted c.args.text.now others.result (omega arith) others.ensures (λ e. omega (arith, e))).stops
