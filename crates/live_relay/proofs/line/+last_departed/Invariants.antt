use Rattle.std.proofs.Common.{length}
use Rattle.live_relay.proofs.line.+last_departed.Given as goal

abbrev pub decreases-last_departed : goal.decreases-last_departed
decreases-last_departed l = length l.states.now
