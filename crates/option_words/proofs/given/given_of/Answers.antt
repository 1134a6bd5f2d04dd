use Rattle.std.proofs.Common.{rules}
use Rattle.option_words.proofs.given.given_of.Goals as goal

pub returns : goal.returns
returns c = search rules
