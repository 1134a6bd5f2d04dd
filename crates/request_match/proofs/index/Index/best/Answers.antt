use Rattle.std.proofs.Common.{rules}
use Rattle.request_match.proofs.index.Index.best.Goals as goal

pub best_of-requires : goal.best_of-requires
best_of-requires c = search rules

pub returns : goal.returns
returns c = search rules
