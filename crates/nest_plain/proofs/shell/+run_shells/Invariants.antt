use Rattle.std.specs.Vec.Iter.{into_iter_len}
use Rattle.nest_plain.proofs.shell.+run_shells.Given as goal

abbrev pub decreases-run_shells : goal.decreases-run_shells
decreases-run_shells l = into_iter_len l.shells
