use Rattle.std.proofs.Common.{rules}
use Rattle.option_words.proofs.numbers.read_within.Goals as goal

pub returns-then-number-most-clause-within : goal.returns-then-number-most-clause-within
returns-then-number-most-clause-within c = search rules
