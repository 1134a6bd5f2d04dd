use Rattle.std.proofs.Common.{rules}
use Rattle.live_relay.proofs.mem_wire.MemWireWire.open.Goals as goal

pub returns-clause-opened : goal.returns-clause-opened
returns-clause-opened c = search rules
