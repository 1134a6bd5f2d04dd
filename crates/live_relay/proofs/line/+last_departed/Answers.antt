use Rattle.std.proofs.Common.{rules}
use Rattle.live_relay.proofs.line.+last_departed.Goals as goal

pub returns-in-Some : goal.returns-in-Some
returns-in-Some t c = search rules
