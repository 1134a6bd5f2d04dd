use Rattle.std.proofs.Common.{length}
use Rattle.sender_merge.proofs.feeding.+fn-send_all-join_mut+arg3+send_all.Given as goal

abbrev pub decreases-join_mut+arg3 : goal.decreases-join_mut+arg3
decreases-join_mut+arg3 g l = length l.others.now

abbrev pub decreases-send_all : goal.decreases-send_all
decreases-send_all g l = length l.schedules.now
