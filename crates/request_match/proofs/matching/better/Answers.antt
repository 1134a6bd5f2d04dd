use Rattle.std.proofs.Common.{rules}
use Rattle.request_match.proofs.matching.better.Goals as goal

pub returns-then-score-most : goal.returns-then-score-most
returns-then-score-most c = search rules
