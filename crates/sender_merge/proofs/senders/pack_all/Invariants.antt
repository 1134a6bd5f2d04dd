use Rattle.std.proofs.Common.{◌≡◌, ◌++◌}
use Rattle.std.specs.Vec.Iter.{into_iter_items}
use Rattle.sender_merge.proofs.senders.pack_all.Given as goal

abbrev pub invariant-loop-schedule : goal.invariant-loop-schedule
invariant-loop-schedule l = l.packed.items ++ into_iter_items l.schedule-iterator ≡ l.fn.schedules.items
