use Rattle.std.proofs.Common.{subst}
use Rattle.command_ends.specs.Causes.{Text}
use Rattle.command_ends.specs.Stops.{RefusesText}
use Rattle.command_report.specs.ReportReading.{log_refusal}
use Rattle.command_report.proofs.ReportLemmas.{log_accepted}
use Rattle.command_report.proofs.report.report_of.Goals as goal

pub returns-in-Ok-clause-report : goal.returns-in-Ok-clause-report
returns-in-Ok-clause-report c = λ bytes has. let found = c.in-Ok.ensures.found bytes has
    in record { entries = found.0; log = found.1; text_is = found.2; report_is = found.3 }

pub returns-in-Ok-clause-refused : goal.returns-in-Ok-clause-refused
returns-in-Ok-clause-refused c = λ bytes has. log_accepted c.args.name.now bytes (c.in-Ok.ensures.exact bytes has)

pub returns-in_ok-from_text-in-Err-clause-refused : goal.returns-in_ok-from_text-in-Err-clause-refused
returns-in_ok-from_text-in-Err-clause-refused c = λ bytes has.
    subst (λ (name : Text). RefusesText (log_refusal name bytes) c.log_cause.result) c.in_ok-from_text-in-Err.ensures
    (c.log_cause.ensures bytes (c.in-Err.ensures.exact bytes has))
