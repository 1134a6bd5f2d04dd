use Rattle.std.proofs.Common.{length}
use Rattle.serve_tests.proofs.store.has_pieces.Given as goal

abbrev pub decreases-pieces : goal.decreases-pieces
decreases-pieces l = length l.pieces.rest
