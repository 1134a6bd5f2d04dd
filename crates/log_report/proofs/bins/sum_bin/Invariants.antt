use Rattle.std.proofs.Common.{◌≤◌, take}
use Rattle.log_report.specs.inside.BinSums.{AreBinSums}
use Rattle.log_report.proofs.bins.sum_bin.Given as goal

abbrev pub invariant-loop-entry : goal.invariant-loop-entry
invariant-loop-entry l = record {
  sums : AreBinSums (take l.entry-index l.entries) l.sums;
  count : l.sums.entries ≤ l.entry-index;
}
