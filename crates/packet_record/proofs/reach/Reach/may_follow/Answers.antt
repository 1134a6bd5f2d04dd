use Rattle.std.proofs.Common.{rules}
use Rattle.packet_record.proofs.reach.Reach.may_follow.Goals as goal

pub returns-in-Packet : goal.returns-in-Packet
returns-in-Packet c = search rules
