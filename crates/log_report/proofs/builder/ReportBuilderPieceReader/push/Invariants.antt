use Rattle.std.proofs.Common.{◌++◌, ℕ, List, length}
use Rattle.log_report.specs.ReportBuilder.{IsSummed}
use Rattle.log_report.proofs.builder.ReportBuilderPieceReader.push.Given as goal

abbrev pub invariant-entries : goal.invariant-entries
invariant-entries l = (whole rest : List ℕ) → IsSummed whole (l.fn.piece ++ rest) l.fn.self
    → IsSummed whole (l.rest ++ rest) l.self

abbrev pub decreases-entries : goal.decreases-entries
decreases-entries l = length l.rest
