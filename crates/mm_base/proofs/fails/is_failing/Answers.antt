use Rattle.std.proofs.Common.{rules}
use Rattle.mm_base.proofs.fails.is_failing.Goals as goal

pub returns-clause-failing : goal.returns-clause-failing
returns-clause-failing c = search rules
