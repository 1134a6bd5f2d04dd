-- Why a relay stopped, by the wire's refusal.
use Rattle.mm_base.specs.declared.errors.EndError.{EndError}
use Rattle.mm_base.specs.declared.errors.EndError.TheVariants.{Failed, OutOfMemory}
use Rattle.live_relay.specs.declared.outcome.RelayError.{RelayError}
use Rattle.live_relay.specs.declared.outcome.RelayError.TheVariants.{WireFault, OutOfMemory as Wants}

abbrev pub relay_error : EndError → RelayError
relay_error Failed = WireFault
relay_error OutOfMemory = Wants
