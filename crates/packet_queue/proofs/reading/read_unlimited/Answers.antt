use Rattle.std.proofs.Common.{rules}
use Rattle.packet_queue.proofs.reading.read_unlimited.Goals as goal

pub returns : goal.returns
returns c = search rules
