use Rattle.std.proofs.Common.{length}
use Rattle.nest_tests.proofs.link_runs.gather.Given as goal

abbrev pub decreases-pieces : goal.decreases-pieces
decreases-pieces l = length l.pieces.rest
