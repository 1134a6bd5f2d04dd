-- Beside Relaying, for proofs alone: what a relay reads and refuses, in order, and what it does with its clock and its
-- wire.
use Rattle.mm_base.specs.declared.errors.EndError.{EndError}
use Rattle.mm_base.specs.declared.errors.EndError.TheVariants as wires
use Rattle.live_relay.specs.declared.outcome.RelayError.{RelayError}
use Rattle.live_relay.specs.declared.outcome.RelayError.TheVariants as relays
use Rattle.command_ends.specs.declared.cause.Cause.{Cause}
use Rattle.command_ends.specs.declared.cause.Cause.TheVariants.{NetFault, OutOfMemory}

-- why a wire can't be opened
abbrev pub cause_of_wire : EndError → Cause
cause_of_wire wires.Failed = NetFault
cause_of_wire wires.OutOfMemory = OutOfMemory

-- why a relay stopped
abbrev pub cause_of_relay : RelayError → Cause
cause_of_relay relays.WireFault = NetFault
cause_of_relay relays.OutOfMemory = OutOfMemory
