use Rattle.std.proofs.Common.{rules}
use Rattle.replay_server.proofs.serving.count_end.Goals as goal

pub returns-in-OutOfMemory-clause-ended : goal.returns-in-OutOfMemory-clause-ended
returns-in-OutOfMemory-clause-ended c = search rules
