use Rattle.command_report.proofs.ReportLemmas.{log_said}
use Rattle.command_report.proofs.report.log_cause.Goals as goal

pub returns-in_default : goal.returns-in_default
returns-in_default c = λ text h.
    log_said c.args.name text c.args.error _ c.in_default.not-OutOfMemory (h c.in_default.not-OutOfMemory)
    (cc (c.number.ensures, c.line.ensures))
