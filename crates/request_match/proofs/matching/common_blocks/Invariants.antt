use Rattle.std.proofs.Common.{◌≡◌, ◌+◌, ◌-◌, ◌≤◌, length, drop}
use Rattle.request_match.specs.Match.{common}
use Rattle.request_match.proofs.matching.common_blocks.Given as goal

abbrev pub invariant-blocks-2 : goal.invariant-blocks-2
invariant-blocks-2 l = record {
  left : l.i ≤ length l.a;
  right : l.i ≤ length l.b;
  same : common l.a l.b ≡ l.i + common (drop l.i l.a) (drop l.i l.b);
}

abbrev pub decreases-blocks-2 : goal.decreases-blocks-2
decreases-blocks-2 l = length l.a - l.i
