use Rattle.std.proofs.Common.{rules}
use Rattle.record_proxy.proofs.serving.with_end.Goals as goal

pub returns-in-Some-BadRequest-clause-one : goal.returns-in-Some-BadRequest-clause-one
returns-in-Some-BadRequest-clause-one c = search rules
