use Rattle.std.proofs.Common.{rules}
use Rattle.packet_record.proofs.packet.Direction.between_spaces.Goals as goal

pub returns-in-Up-clause-text : goal.returns-in-Up-clause-text
returns-in-Up-clause-text c = search rules
