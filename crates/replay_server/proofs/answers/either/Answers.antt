use Rattle.std.proofs.Common.{rules}
use Rattle.replay_server.proofs.answers.either.Goals as goal

pub returns-then-request : goal.returns-then-request
returns-then-request c = search rules

pub returns-else-request : goal.returns-else-request
returns-else-request c = search rules
