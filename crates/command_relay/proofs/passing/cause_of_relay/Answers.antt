use Rattle.std.proofs.Common.{rules}
use Rattle.command_relay.proofs.passing.cause_of_relay.Goals as goal

pub returns-in-WireFault : goal.returns-in-WireFault
returns-in-WireFault c = search rules
