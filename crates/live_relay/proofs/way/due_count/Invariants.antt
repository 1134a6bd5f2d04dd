use Rattle.std.proofs.Common.{◌≤◌, ◌-◌, length}
use Rattle.live_relay.specs.Lines.{up_to}
use Rattle.live_relay.proofs.way.due_count.Given as goal

abbrev pub invariant-loop-count : goal.invariant-loop-count
invariant-loop-count l = record {
  due : l.count ≤ length (up_to l.moment l.departed);
  known : l.known ≤ l.count;
}

abbrev pub decreases-loop-count : goal.decreases-loop-count
decreases-loop-count l = length l.departed - l.count
