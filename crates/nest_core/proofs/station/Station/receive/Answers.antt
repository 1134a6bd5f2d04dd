use Rattle.std.proofs.Common.{rules}
use Rattle.nest_core.proofs.station.Station.receive.Goals as goal

pub returns-then-is_some-clause-after : goal.returns-then-is_some-clause-after
returns-then-is_some-clause-after c = search rules

pub returns-then-is_some-clause-channel : goal.returns-then-is_some-clause-channel
returns-then-is_some-clause-channel c = search rules

pub returns-then-is_some-clause-did : goal.returns-then-is_some-clause-did
returns-then-is_some-clause-did c = search rules

pub returns-clause-after : goal.returns-clause-after
returns-clause-after c = search rules

pub returns-clause-channel : goal.returns-clause-channel
returns-clause-channel c = search rules

pub returns-clause-did : goal.returns-clause-did
returns-clause-did c = search rules
