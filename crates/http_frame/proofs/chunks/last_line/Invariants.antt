use Rattle.std.proofs.Common.{◌≡◌, ◌≤◌, take, drop}
use Rattle.http_frame.specs.inside.Steps.{last_line as line_left}
use Rattle.http_frame.proofs.chunks.last_line.Given as goal

abbrev pub invariant-loop-i : goal.invariant-loop-i
invariant-loop-i l = record {
  inside : l.start ≤ l.i;
  same : drop l.start (take l.i l.bytes) ≡ line_left (take l.i l.bytes);
}
