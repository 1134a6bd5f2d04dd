use Rattle.std.proofs.Common.{rules}
use Rattle.live_relay.proofs.side.Side.direction.Goals as goal

pub returns-in-Server : goal.returns-in-Server
returns-in-Server c = search rules
