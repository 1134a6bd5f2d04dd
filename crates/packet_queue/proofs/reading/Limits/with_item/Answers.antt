use Rattle.std.proofs.Common.{rules}
use Rattle.packet_queue.proofs.reading.Limits.with_item.Goals as goal

pub returns-in-Some-bytes : goal.returns-in-Some-bytes
returns-in-Some-bytes c = search rules

pub returns-in-None : goal.returns-in-None
returns-in-None c = search rules
