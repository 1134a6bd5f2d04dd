use Rattle.std.proofs.Common.{rules}
use Rattle.replay_server.proofs.serving.with_end.Goals as goal

pub returns-in-Closed-clause-one : goal.returns-in-Closed-clause-one
returns-in-Closed-clause-one c = search rules

pub returns-in-LinkFault-clause-one : goal.returns-in-LinkFault-clause-one
returns-in-LinkFault-clause-one c = search rules
