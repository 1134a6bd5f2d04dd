use Rattle.std.proofs.Common.{rules}
use Rattle.packet_record.proofs.reach.Reach.add.Goals as goal

pub returns-in-Mark : goal.returns-in-Mark
returns-in-Mark c = search rules
