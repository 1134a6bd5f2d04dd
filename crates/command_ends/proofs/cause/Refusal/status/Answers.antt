use Rattle.std.proofs.Common.{rules}
use Rattle.command_ends.proofs.cause.Refusal.status.Goals as goal

pub returns-in-Limit : goal.returns-in-Limit
returns-in-Limit c = search rules
