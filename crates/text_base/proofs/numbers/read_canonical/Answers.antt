use Rattle.std.proofs.Common.{rules}
use Rattle.text_base.proofs.numbers.read_canonical.Goals as goal

pub returns-in-48 : goal.returns-in-48
returns-in-48 c = search rules
