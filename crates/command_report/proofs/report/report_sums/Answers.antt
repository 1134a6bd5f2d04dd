use Rattle.std.proofs.Common.{List, ℕ, subst, sym, ◌∙◌}
use Rattle.command_ends.specs.Ends.{offline}
use Rattle.command_ends.specs.inside.Ends.{FinishesOnly}
use Rattle.command_ends.specs.Outputs.{prints}
use Rattle.command_ends.specs.Works.{only}
use Rattle.command_ends.proofs.EndLemmas.{ends_printed, handed_early, handed_stopped, keeps}
use Rattle.command_report.specs.Report.{GivesReport}
use Rattle.command_report.specs.ReportReading.{report_reading}
use Rattle.command_report.specs.inside.Values.{report_values}
use Rattle.command_report.proofs.report.report_sums.Goals as goal

pub returns-in_err-report-clause-ends : goal.returns-in_err-report-clause-ends
returns-in_err-report-clause-ends g c =
    handed_stopped (only GivesReport) (report_reading (report_values c.args.job.now)) _ _ _ tt _ c.from_residual.result
    c.from_residual.ensures.1 (keeps c.load_report.ensures.only_reads) c.in_err-report.ensures.stopped

pub returns-in_err-text-clause-ends : goal.returns-in_err-text-clause-ends
returns-in_err-text-clause-ends g c =
    handed_early (only GivesReport) (report_reading (report_values c.args.job.now)) _ _ _ tt
    c.from_residual-in_err-text.result c.from_residual-in_err-text.ensures.1 (keeps c.load_report.ensures.only_reads)

pub returns-clause-ends : goal.returns-clause-ends
returns-clause-ends g c =
    let reading = report_reading (report_values c.args.job.now) in
    let old = offline (g.D.Disk.view c.args.disk.now) (g.O.Sink.view c.args.out.now) in
    let new = offline (g.D.Disk.view c.load_report.new.disk) (g.O.Sink.view c.print.new.out) in
    let same = sym (c.as_slice.ensures ∙ c.in_ok-text.ensures) in
    ends_printed (only GivesReport) reading old new c.as_slice.result.now c.print.result
    (subst (λ (text : List ℕ). FinishesOnly GivesReport reading old.disk.files (prints text)) same
    (c.in_ok-report.ensures.found c.args.form c.requires))
    (keeps c.load_report.ensures.only_reads) c.print.ensures.ok c.print.ensures.stopped
