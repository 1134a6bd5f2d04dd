use Rattle.std.proofs.Common.{◌≡◌, ◌∙◌, ◌+◌, length, drop, length-drop, sym, ap, arith}
use Rattle.request_match.specs.Match.{common}
use Rattle.request_match.proofs.FrontLemmas.{front_below, front_above, front_same, common_short}
use Rattle.request_match.proofs.index_scores.carried.Goals as goal

pub returns-then-front-score : goal.returns-then-front-score
returns-then-front-score c = λ before e f.
    e ∙ sym (front_below before c.args.line.now c.args.asked.now (omega (arith, c.if-front-score.true, e, f)))

pub returns-then-score-front : goal.returns-then-score-front
returns-then-score-front c = λ before e f.
    f ∙ sym (front_above before c.args.line.now c.args.asked.now (omega (arith, c.if-score-front.true, e, f)))

pub overflow_add-result : goal.overflow_add-result
overflow_add-result c =
    let short = common_short c.tail.result.now c.tail-2.result.now in
    let long : length c.tail.result.now ≡ length (drop c.args.front c.args.line.now) = ap length c.tail.ensures in
    let left = length-drop c.args.front c.args.line.now in
    omega (arith, short, long, left, c.common_front.ensures)

pub returns : goal.returns
returns c = λ before e f.
    let line = c.args.line.now in
    let asked = c.args.asked.now in
    let front = c.args.front in
    let same : front ≡ common before asked = omega (arith, f, c.if-front-score.false, c.if-score-front.false) in
    let rest : c.common_front.result ≡ common (drop front line) (drop front asked) =
    c.common_front.ensures ∙ ap (λ l. common l c.tail-2.result.now) c.tail.ensures
    ∙ ap (common (drop front line)) c.tail-2.ensures in
    ap (λ n. front + n) rest ∙ sym (front_same before line asked front e same)
