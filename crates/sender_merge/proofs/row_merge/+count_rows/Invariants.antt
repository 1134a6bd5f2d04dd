use Rattle.std.proofs.Common.{length}
use Rattle.sender_merge.proofs.row_merge.+count_rows.Given as goal

abbrev pub decreases-count_rows : goal.decreases-count_rows
decreases-count_rows l = length l.schedules.now
