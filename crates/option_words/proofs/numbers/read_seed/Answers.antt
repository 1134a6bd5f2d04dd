use Rattle.std.proofs.Common.{rules}
use Rattle.option_words.proofs.numbers.read_seed.Goals as goal

pub returns-in-None : goal.returns-in-None
returns-in-None c = search rules
