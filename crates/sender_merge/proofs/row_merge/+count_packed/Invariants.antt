use Rattle.std.proofs.Common.{length}
use Rattle.sender_merge.proofs.row_merge.+count_packed.Given as goal

abbrev pub decreases-count_packed : goal.decreases-count_packed
decreases-count_packed l = length l.schedules.now
