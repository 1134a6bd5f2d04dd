use Rattle.std.proofs.Common.{◌≡◌, ◌<◌, ℕ, List, sum, take}
use Rattle.log_report.specs.inside.Counted.{AreRanked}
use Rattle.log_report.proofs.RankLaws.{below}
use Rattle.log_report.proofs.delays.DelayCounts.at.Given as goal

abbrev pub invariant-loop-delay : goal.invariant-loop-delay
invariant-loop-delay l = record {
  seen : l.seen ≡ sum (take l.delay l.self.short.items);
  low : l.seen < l.rank;
  ranks : (delays : List ℕ) → AreRanked delays l.self → l.seen ≡ below l.delay delays;
}
