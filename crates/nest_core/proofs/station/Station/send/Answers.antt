use Rattle.std.proofs.Common.{rules}
use Rattle.nest_core.proofs.station.Station.send.Goals as goal

pub returns-clause-after : goal.returns-clause-after
returns-clause-after c = search rules
