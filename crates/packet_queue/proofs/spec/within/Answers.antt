use Rattle.std.proofs.Common.{rules}
use Rattle.packet_queue.proofs.spec.within.Goals as goal

pub returns-else-limit-eq0 : goal.returns-else-limit-eq0
returns-else-limit-eq0 c = search rules
