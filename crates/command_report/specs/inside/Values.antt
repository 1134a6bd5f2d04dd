-- For proofs alone: what the values of the code mean.
use Rattle.command_report.specs.Make as make
use Rattle.command_report.specs.Report as report
use Rattle.command_report.specs.declared.make_job.MakeJob.{MakeJob}
use Rattle.command_report.specs.declared.report_form.ReportJob.{ReportJob}

-- The job as contracts see it.
abbrev pub report_values : ReportJob → report.ReportJob
report_values job = record { log = job.log.now; form = job.form }

-- The job of `make` as contracts see it.
abbrev pub make_values : MakeJob → make.MakeJob
make_values job = record { number = job.number; packets = job.packets }
