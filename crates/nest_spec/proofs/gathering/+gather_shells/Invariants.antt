use Rattle.std.proofs.Common.{length}
use Rattle.nest_spec.proofs.gathering.+gather_shells.Given as goal

abbrev pub decreases-gather_shells : goal.decreases-gather_shells
decreases-gather_shells l = length l.shells.now
