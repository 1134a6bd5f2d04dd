use Rattle.std.proofs.Common.{◌≡◌, false}
use Rattle.serve_tests.proofs.frames.responses.answers_cut.Given as goal

abbrev pub invariant-pieces : goal.invariant-pieces
invariant-pieces l = l.frames.ended ≡ false
