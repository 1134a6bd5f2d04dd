use Rattle.std.proofs.Common.{rules}
use Rattle.mm_base.proofs.mem_disk.copy_from.Goals as goal

pub returns-clause-end : goal.returns-clause-end
returns-clause-end c = search rules
