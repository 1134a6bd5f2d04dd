use Rattle.std.proofs.Common.{None, arith, ap, sym}
use Rattle.std.proofs.lemmas.Str.Pattern.{split_parts}
use Rattle.clap.proofs.LexerLemmas.{name_and_value-without}
use Rattle.option_words.proofs.fit.value_after_equals.Goals as goal

pub returns-in-None : goal.returns-in-None
returns-in-None c =
    let lacks = split_parts 61 c.args.text.now None c.in-None.ensures.cases (omega arith) in
    sym (ap (λ (p : _). p.1) (name_and_value-without c.args.text.now lacks))
