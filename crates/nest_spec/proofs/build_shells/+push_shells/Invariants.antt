use Rattle.std.proofs.Common.{length}
use Rattle.nest_spec.proofs.build_shells.+push_shells.Given as goal

abbrev pub decreases-push_shells : goal.decreases-push_shells
decreases-push_shells l = length l.words.now
