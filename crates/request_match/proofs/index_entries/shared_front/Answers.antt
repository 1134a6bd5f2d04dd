use Rattle.std.proofs.Common.{rules}
use Rattle.request_match.proofs.index_entries.shared_front.Goals as goal

pub returns : goal.returns
returns c = search rules
