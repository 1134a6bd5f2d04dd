use Rattle.std.proofs.Common.{◌≤◌, ◌-◌, length}
use Rattle.request_match.specs.inside.Index.{HasNear, Scanned}
use Rattle.request_match.proofs.index.best_from.Given as goal

abbrev pub invariant-entries : goal.invariant-entries
invariant-entries l = record {
  started : l.fn.start ≤ l.i;
  inside : l.i ≤ length l.entries;
  scanned : Scanned l.asked.request.now l.asked.port l.records l.entries l.i l.found;
  near : HasNear l.asked.request.now l.asked.port l.records l.entries l.i l.score;
}

abbrev pub decreases-entries : goal.decreases-entries
decreases-entries l = length l.entries - l.i
