use Rattle.std.proofs.Common.{rules}
use Rattle.command_stores.proofs.matching.number_at.Goals as goal

pub returns : goal.returns
returns c = search rules
