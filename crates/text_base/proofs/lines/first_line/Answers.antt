use Rattle.std.proofs.Common.{◌∷◌, length, ap, sym, ◌∙◌, arith}
use Rattle.std.proofs.lemmas.List.{take_rest, drop_all}
use Rattle.text_base.specs.Lines.{lines_of}
use Rattle.text_base.proofs.TextLemmas.{lines_of-line, lines_of-last}
use Rattle.text_base.proofs.lines.first_line.Goals as goal

pub returns-in-Some-clause-lines : goal.returns-in-Some-clause-lines
returns-in-Some-clause-lines c =
    let cut = c.in-Some.cut in
    ap lines_of c.in-Some.ensures.0 ∙ lines_of-line cut.0.now cut.1.now c.in-Some.ensures.1

pub returns-in-None-clause-lines : goal.returns-in-None-clause-lines
returns-in-None-clause-lines c =
    let text = c.args.text.now in
    lines_of-last text c.in-None.ensures c.requires
    ∙ ap (λ l. text ∷ lines_of l) (sym (take_rest text (length text) ∙ drop_all (length text) text (omega arith)))
