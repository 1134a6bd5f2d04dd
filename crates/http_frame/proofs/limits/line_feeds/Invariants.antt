use Rattle.std.proofs.Common.{◌≡◌, ◌+◌, length}
use Rattle.http_frame.specs.Window.{line_feeds as feeds_of}
use Rattle.http_frame.proofs.limits.line_feeds.Given as goal

abbrev pub invariant-loop-rest : goal.invariant-loop-rest
invariant-loop-rest l = l.count + feeds_of l.rest ≡ feeds_of l.bytes

abbrev pub decreases-loop-rest : goal.decreases-loop-rest
decreases-loop-rest l = length l.rest
