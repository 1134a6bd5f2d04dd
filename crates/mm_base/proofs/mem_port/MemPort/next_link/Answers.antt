use Rattle.std.proofs.Common.{rules}
use Rattle.mm_base.proofs.mem_port.MemPort.next_link.Goals as goal

pub returns-clause-some : goal.returns-clause-some
returns-clause-some c = search rules
