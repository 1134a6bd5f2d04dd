use Rattle.std.proofs.Common.{length}
use Rattle.sender_merge.proofs.row_merge.+take_before.Given as goal

abbrev pub decreases-take_before : goal.decreases-take_before
decreases-take_before l = length l.schedules.now
