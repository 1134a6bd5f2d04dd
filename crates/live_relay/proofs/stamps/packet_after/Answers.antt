use Rattle.std.proofs.Common.{rules}
use Rattle.live_relay.proofs.stamps.packet_after.Goals as goal

pub invariant_of-result : goal.invariant_of-result
invariant_of-result c = search rules
