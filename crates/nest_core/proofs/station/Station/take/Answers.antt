use Rattle.std.proofs.Common.{rules}
use Rattle.nest_core.proofs.station.Station.take.Goals as goal

pub returns-in-Item-clause-ok : goal.returns-in-Item-clause-ok
returns-in-Item-clause-ok c = search rules

pub returns-in-Item-clause-did : goal.returns-in-Item-clause-did
returns-in-Item-clause-did c = search rules

pub returns-in-Again-clause-ok : goal.returns-in-Again-clause-ok
returns-in-Again-clause-ok c = search rules

pub returns-in-Again-clause-did : goal.returns-in-Again-clause-did
returns-in-Again-clause-did c = search rules

pub returns-in-NotYet-clause-ok : goal.returns-in-NotYet-clause-ok
returns-in-NotYet-clause-ok c = search rules

pub returns-in-NotYet-clause-did : goal.returns-in-NotYet-clause-did
returns-in-NotYet-clause-did c = search rules
