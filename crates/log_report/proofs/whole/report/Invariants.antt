use Rattle.std.proofs.Common.{take}
use Rattle.log_report.specs.Summed.{AreSums}
use Rattle.log_report.proofs.whole.report.Given as goal

abbrev pub invariant-loop-entry : goal.invariant-loop-entry
invariant-loop-entry l = AreSums (take l.entry-index l.entries) l.sums
