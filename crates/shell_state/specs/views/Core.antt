-- How the cores of each kind are seen as one.
use Rattle.std.specs.Prelude.{ℕ, List}
use Rattle.packet_record.specs.declared.packet.Timed.{Timed}
use Rattle.shell_state.specs.declared.spec.DirSpec.{DirSpec}
use Rattle.shell_state.specs.declared.spec.DirSpec.TheVariants as specs
use Rattle.shell_state.specs.declared.kinds.Inner.{Inner}
use Rattle.shell_state.specs.declared.kinds.Inner.TheVariants.{Pass, Delay, Loss, Link}
use Rattle.shell_state.specs.declared.kinds.Core.TheInside.{Inside}
use Rattle.shell_state.specs.CoreParts.{CorePart}

abbrev pub spec_of : Inner → DirSpec
spec_of (Pass arrived) = specs.Pass
spec_of (Delay core ms) = specs.Delay ms
spec_of (Loss core seed stream) = specs.Loss core.rate seed stream
spec_of (Link core) = specs.Link core.trace core.once core.queue

abbrev pub arrivals_of : Inner → List Timed
arrivals_of (Pass arrived) = arrived.items
arrivals_of (Delay core ms) = core.arrivals
arrivals_of (Loss core seed stream) = core.arrivals
arrivals_of (Link core) = core.arrivals

abbrev pub burnt_of : Inner → ℕ
burnt_of (Pass arrived) = 0
burnt_of (Delay core ms) = 0
burnt_of (Loss core seed stream) = 0
burnt_of (Link core) = core.burnt

abbrev pub core_view : Inside → CorePart
core_view c = record {
  spec = spec_of c.inner;
  horizon = c.until;
  arrivals = arrivals_of c.inner;
  burnt = burnt_of c.inner;
}
