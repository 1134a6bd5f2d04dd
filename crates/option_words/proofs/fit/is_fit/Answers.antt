use Rattle.std.proofs.Common.{rules}
use Rattle.option_words.proofs.fit.is_fit.Goals as goal

pub returns-in-Some-value_after_equals : goal.returns-in-Some-value_after_equals
returns-in-Some-value_after_equals c = search rules
