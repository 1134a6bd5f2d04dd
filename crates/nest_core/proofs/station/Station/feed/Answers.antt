use Rattle.std.proofs.Common.{rules}
use Rattle.nest_core.proofs.station.Station.feed.Goals as goal

pub returns-clause-ok : goal.returns-clause-ok
returns-clause-ok c = search rules
