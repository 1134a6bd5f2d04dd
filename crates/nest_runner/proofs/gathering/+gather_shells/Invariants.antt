use Rattle.std.specs.Vec.Iter.{into_iter_len}
use Rattle.nest_runner.proofs.gathering.+gather_shells.Given as goal

abbrev pub decreases-gather_shells : goal.decreases-gather_shells
decreases-gather_shells l = into_iter_len l.shells
