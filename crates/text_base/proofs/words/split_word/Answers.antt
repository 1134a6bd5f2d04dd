use Rattle.std.proofs.Common.{◌==◌, ℕ, sym}
use Rattle.text_base.proofs.WordsLemmas.{before_cut, after_cut, before_none, after_none}
use Rattle.text_base.proofs.words.split_word.Goals as goal

pub returns-in-Some-clause-first : goal.returns-in-Some-clause-first
returns-in-Some-clause-first c = before_cut (λ (byte : ℕ). byte == 32) c.args.text.now c.in-Some.end
    (sym c.in-Some.ensures.place)

pub returns-in-Some-clause-others : goal.returns-in-Some-clause-others
returns-in-Some-clause-others c = after_cut (λ (byte : ℕ). byte == 32) c.args.text.now c.in-Some.end
    (sym c.in-Some.ensures.place)

pub returns-in-None-clause-first : goal.returns-in-None-clause-first
returns-in-None-clause-first c = before_none (λ (byte : ℕ). byte == 32) c.args.text.now (sym c.in-None.ensures.place)

pub returns-in-None-clause-others : goal.returns-in-None-clause-others
returns-in-None-clause-others c = after_none (λ (byte : ℕ). byte == 32) c.args.text.now (sym c.in-None.ensures.place)
