use Rattle.std.proofs.Common.{length}
use Rattle.nest_spec.proofs.nest.+push_directions.Given as goal

abbrev pub decreases-push_directions : goal.decreases-push_directions
decreases-push_directions l = length l.shells.now
