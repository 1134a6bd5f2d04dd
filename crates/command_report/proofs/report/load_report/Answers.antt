use Rattle.std.proofs.Common.{subst, sym}
use Rattle.std.proofs.lemmas.Result.{err_from_is_err_and}
use Rattle.command_ends.specs.Readings.{Done, unless}
use Rattle.command_ends.specs.Stops.{StopsReading}
use Rattle.command_ends.specs.declared.cause.Cause.{Cause}
use Rattle.command_ends.proofs.ReadingLemmas.{stops_at}
use Rattle.command_report.specs.ReportReading.{log_refusal, report_reading}
use Rattle.command_report.specs.inside.Values.{report_values}
use Rattle.command_report.proofs.ReportLemmas.{report_found, report_stop}
use Rattle.command_report.proofs.report.load_report.Goals as goal

pub returns-in_err-text-clause-stopped : goal.returns-in_err-text-clause-stopped
returns-in_err-text-clause-stopped g c =
    let p = err_from_is_err_and c.from_residual.result c.from_residual.ensures.1 in
    let job = report_values c.args.job.now in
    let old = g.D.Disk.view c.args.disk.now in
    let new = g.D.Disk.view c.read_log_file.new.disk in
    rw p.1 (subst (λ (k : Cause). StopsReading (report_reading job) old new k) (sym p.2)
    (stops_at job.log (λ text. unless (log_refusal job.log text) (Done (record { form = job.form; text = text }))) old
    new _ c.in_err-text.ensures.stopped))

pub returns-clause-found : goal.returns-clause-found
returns-clause-found g c = λ form at.
    let read = c.in_ok-text.ensures.read in
    report_found (report_values c.args.job.now) form (g.D.Disk.view c.args.disk.now).files read.0 c.report_of.result at
    read.1 (c.report_of.ensures.report read.0 read.2) (c.report_of.ensures.refused read.0 read.2)

pub returns-clause-stopped : goal.returns-clause-stopped
returns-clause-stopped g c =
    let read = c.in_ok-text.ensures.read in
    report_stop (report_values c.args.job.now) (g.D.Disk.view c.args.disk.now)
    (g.D.Disk.view c.read_log_file.new.disk) read.0 c.report_of.result read.1
    (c.report_of.ensures.refused read.0 read.2)
