use Rattle.std.proofs.Common.{rules}
use Rattle.option_words.proofs.table.action_for.Goals as goal

pub returns-then-takes_value : goal.returns-then-takes_value
returns-then-takes_value c = search rules
