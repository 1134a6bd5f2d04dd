use Rattle.std.proofs.Common.{rules}
use Rattle.nest_runner.proofs.lane.close_stage.Goals as goal

pub settle-requires : goal.settle-requires
settle-requires c = search rules

pub returns-clause-fed : goal.returns-clause-fed
returns-clause-fed c = search rules

pub returns-clause-taken : goal.returns-clause-taken
returns-clause-taken c = search rules

pub returns-clause-channel : goal.returns-clause-channel
returns-clause-channel c = search rules
