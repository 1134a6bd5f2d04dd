use Rattle.std.proofs.Common.{◌+◌, ◌∷◌, ◌++◌, take, ap, sym, ◌∙◌, arith}
use Rattle.std.proofs.lemmas.List.{take_rest}
use Rattle.text_base.proofs.CutLemmas.{one_line_front, one_line_none, cut_at}
use Rattle.text_base.proofs.lines.cut_line.Goals as goal

pub returns-in-Some : goal.returns-in-Some
returns-in-Some c =
    let text = c.args.text.now in
    let end = c.in-Some.end in
    let place = c.in-Some.ensures in (
      cut_at text end place.0.high place.1 ∙ ap (λ l. take end text ++ 10 ∷ l) (sym (take_rest text (end + 1))),
      one_line_front text end (λ k lt. place.0.before k (omega arith) lt),
    )

pub returns-in-None : goal.returns-in-None
returns-in-None c = one_line_none c.args.text.now (λ k lt. c.in-None.ensures k (omega arith) lt)
