use Rattle.std.proofs.Common.{rules}
use Rattle.option_words.proofs.fit.is_value.Goals as goal

pub returns-in-empty : goal.returns-in-empty
returns-in-empty c = search rules
