use Rattle.std.proofs.Common.{◌≡◌, take}
use Rattle.http_frame.specs.Window.{line_feeds as feeds_of}
use Rattle.http_frame.proofs.limits.feeds_in_run.Given as goal

abbrev pub invariant-loop-byte : goal.invariant-loop-byte
invariant-loop-byte l = l.count ≡ feeds_of (take l.byte-index l.run)
