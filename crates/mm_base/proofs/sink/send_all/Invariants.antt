use Rattle.std.proofs.Common.{◌≡◌, ◌≤◌, ◌-◌, length, take}
use Rattle.mm_base.specs.Sink.{sending, CountsSinkFaults}
use Rattle.mm_base.proofs.sink.send_all.Given as goal

abbrev pub invariant-loop-at : goal.invariant-loop-at
invariant-loop-at g l = record {
  within : l.at ≤ length l.bytes;
  so_far : (g.O.Sink.view l.out).written ≡ sending (take l.at l.bytes) (g.O.Sink.view l.fn.out).written;
  counts : CountsSinkFaults (g.O.Sink.view l.fn.out) (g.O.Sink.view l.out);
}

abbrev pub decreases-loop-at : goal.decreases-loop-at
decreases-loop-at g l = length l.bytes - l.at
