use Rattle.std.proofs.Common.{rules}
use Rattle.command_stores.proofs.replaying.cause_of.Goals as goal

pub returns-in-OutOfMemory : goal.returns-in-OutOfMemory
returns-in-OutOfMemory c = search rules
