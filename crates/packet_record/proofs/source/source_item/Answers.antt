use Rattle.std.proofs.Common.{rules}
use Rattle.packet_record.proofs.source.source_item.Goals as goal

pub returns-then-moment-sent : goal.returns-then-moment-sent
returns-then-moment-sent c = search rules
