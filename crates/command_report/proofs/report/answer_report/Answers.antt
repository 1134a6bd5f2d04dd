use Rattle.std.proofs.Common.{ap, map, string_bytes}
use Rattle.std.specs.Result.{result_ok}
use Rattle.command_ends.specs.Works.{only}
use Rattle.command_ends.proofs.AloneLemmas.{alone_job, unrefused}
use Rattle.command_ends.proofs.EndLemmas.{ends_job, ends_no_job, handed_early, keeps_all}
use Rattle.command_report.specs.Report.{GivesReport}
use Rattle.command_report.specs.ReportReading.{report_reading, report_words}
use Rattle.command_report.specs.inside.Values.{report_values}
use Rattle.command_report.proofs.report.answer_report.Goals as goal

pub returns-in-Ok-clause-ends : goal.returns-in-Ok-clause-ends
returns-in-Ok-clause-ends g c =
    ends_job (only GivesReport) report_values _ _ _ report_reading _ _ _ (ap result_ok c.in-Ok.is) c.in_ok-job.ensures c.report.ensures.ends

pub returns-in-Err-clause-ends : goal.returns-in-Err-clause-ends
returns-in-Err-clause-ends g c =
    ends_no_job (only GivesReport) report_values _ _ report_reading _ _ (ap result_ok c.in-Err.is) c.in_ok-job.ensures c.usage.ensures

pub returns-in_err-job-clause-ends : goal.returns-in_err-job-clause-ends
returns-in_err-job-clause-ends g c =
    handed_early (only GivesReport) (report_words (map string_bytes c.args.words.now)) _ _ _ tt c.from_residual.result
    c.from_residual.ensures.1 (keeps_all _)

pub returns-in-Ok-clause-alone : goal.returns-in-Ok-clause-alone
returns-in-Ok-clause-alone g c =
    alone_job report_values _ _ _ report_reading _ _ (ap result_ok c.in-Ok.is) c.in_ok-job.ensures (unrefused _ _)
