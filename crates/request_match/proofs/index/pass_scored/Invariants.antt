use Rattle.std.proofs.Common.{◌≤◌, ◌-◌, Some, length}
use Rattle.request_match.specs.inside.Index.{Passes}
use Rattle.request_match.proofs.index.pass_scored.Given as goal

abbrev pub invariant-equals : goal.invariant-equals
invariant-equals l = record {
  onward : l.fn.start ≤ l.i;
  inside : l.i ≤ length l.entries;
  stands : Passes l.entries l.fronts (Some l.score) l.fn.start l.fn.place l.i l.first;
}

abbrev pub decreases-equals : goal.decreases-equals
decreases-equals l = length l.entries - l.i
