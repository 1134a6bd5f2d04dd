use Rattle.command_ends.specs.Ends.{offline}
use Rattle.command_ends.specs.Works.{only}
use Rattle.command_ends.proofs.EndLemmas.{ends_printed, handed_stopped, keeps}
use Rattle.log_report.specs.SeriesText.{series_text}
use Rattle.command_report.specs.Report.{GivesReport}
use Rattle.command_report.specs.ReportReading.{report_reading}
use Rattle.command_report.specs.inside.Values.{report_values}
use Rattle.command_report.proofs.report.report_series.Goals as goal

pub returns-in_err-log-clause-ends : goal.returns-in_err-log-clause-ends
returns-in_err-log-clause-ends g c =
    handed_stopped (only GivesReport) (report_reading (report_values c.args.job.now)) _ _ _ tt _ c.from_residual.result
    c.from_residual.ensures.1 (keeps c.load_log.ensures.only_reads) c.in_err-log.ensures.stopped

pub returns-clause-ends : goal.returns-clause-ends
returns-clause-ends g c =
    let old = offline (g.D.Disk.view c.args.disk.now) (g.O.Sink.view c.args.out.now) in
    let new = offline (g.D.Disk.view c.load_log.new.disk) (g.O.Sink.view c.print_series.new.out) in
    ends_printed (only GivesReport) (report_reading (report_values c.args.job.now)) old new
    (series_text c.args.every c.in_ok-log.log.entries) c.print_series.result
    (c.in_ok-log.ensures.found c.args.every c.requires.form)
    (keeps c.load_log.ensures.only_reads) c.print_series.ensures.ok c.print_series.ensures.stopped
