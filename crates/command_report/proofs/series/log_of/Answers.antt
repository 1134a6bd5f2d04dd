use Rattle.command_report.proofs.ReportLemmas.{log_accepted}
use Rattle.command_report.proofs.series.log_of.Goals as goal

pub returns-in-Ok-clause-refused : goal.returns-in-Ok-clause-refused
returns-in-Ok-clause-refused c = log_accepted c.args.name.now c.args.text.now c.in-Ok.ensures.exact
