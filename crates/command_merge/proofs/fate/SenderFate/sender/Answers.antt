use Rattle.std.proofs.Common.{rules}
use Rattle.command_merge.proofs.fate.SenderFate.sender.Goals as goal

pub returns-clause-number : goal.returns-clause-number
returns-clause-number c = search rules
