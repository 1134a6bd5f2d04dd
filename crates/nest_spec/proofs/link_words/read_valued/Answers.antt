use Rattle.std.proofs.Common.{rules}
use Rattle.nest_spec.proofs.link_words.read_valued.Goals as goal

pub returns-in_default-value : goal.returns-in_default-value
returns-in_default-value c = search rules

pub returns-in_err-check_own_value : goal.returns-in_err-check_own_value
returns-in_err-check_own_value c = search rules

pub returns : goal.returns
returns c = search rules
