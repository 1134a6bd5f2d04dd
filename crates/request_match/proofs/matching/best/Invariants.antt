use Rattle.std.proofs.Common.{take}
use Rattle.request_match.specs.inside.Match.{BestSoFar}
use Rattle.request_match.proofs.matching.best.Given as goal

abbrev pub invariant-loop-i : goal.invariant-loop-i
invariant-loop-i l = BestSoFar l.request l.fn.port (take l.i l.records) l.found
