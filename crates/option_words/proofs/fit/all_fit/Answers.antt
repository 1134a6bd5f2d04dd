use Rattle.std.proofs.Common.{string_bytes, sym, ◌∙◌, ap}
use Rattle.option_words.specs.inside.Options.{is_fit}
use Rattle.option_words.proofs.TableLemmas.{one_unfit}
use Rattle.option_words.proofs.fit.all_fit.Goals as goal

pub returns-then-not-is_fit : goal.returns-then-not-is_fit
returns-then-not-is_fit c =
    one_unfit string_bytes c.args.words.now c.loop-word.word-index c.word-item.result c.loop-word-test.true
    c.word-item.is
    (ap is_fit (sym c.as_str.ensures.value) ∙ sym c.is_fit.ensures ∙ c.if-not-is_fit.true)
