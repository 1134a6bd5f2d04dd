use Rattle.std.proofs.Common.{rules}
use Rattle.packet_record.proofs.draws.Draws.draw.Goals as goal

pub returns-clause-value : goal.returns-clause-value
returns-clause-value c = search rules
