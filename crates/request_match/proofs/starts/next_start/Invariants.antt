use Rattle.std.proofs.Common.{length, ◌-◌}
use Rattle.request_match.proofs.starts.next_start.Given as goal

abbrev pub decreases-loop-place : goal.decreases-loop-place
decreases-loop-place l = length l.entries - l.place
