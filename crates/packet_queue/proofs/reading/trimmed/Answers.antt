use Rattle.std.proofs.Common.{rules}
use Rattle.packet_queue.proofs.reading.trimmed.Goals as goal

pub returns : goal.returns
returns c = search rules
