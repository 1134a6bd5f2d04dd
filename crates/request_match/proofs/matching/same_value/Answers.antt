use Rattle.std.proofs.Common.{rules}
use Rattle.request_match.proofs.matching.same_value.Goals as goal

pub returns-in-Some-None : goal.returns-in-Some-None
returns-in-Some-None c = search rules
