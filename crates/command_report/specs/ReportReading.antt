-- What the command `report` reads and refuses, in order.
use Rattle.std.specs.Prelude.{ℕ, List, Option, Some, None}
use Rattle.shell_log.specs.Reading.{line_named, log_fault, number_of}
use Rattle.shell_log.specs.declared.reading.LogError.{LogError}
use Rattle.shell_log.specs.declared.reading.LogError.TheVariants.{OutOfMemory}
use Rattle.command_ends.specs.Causes.{Text}
use Rattle.command_ends.specs.Readings.{Reading, Done, asked, reading_text}
use Rattle.command_ends.specs.declared.cause.Refusal.{Refusal}
use Rattle.command_ends.specs.declared.cause.Refusal.TheVariants.{BadInput}
use Rattle.command_report.specs.Report.{ReportJob, ReportTask, report_job_of}

-- The refusal of a log's text for its error. Out of memory is no error of a text.
abbrev pub log_refused : Text → Option LogError → Option Refusal
log_refused name None = None
log_refused name (Some OutOfMemory) = None
log_refused name (Some error) = Some (BadInput name (number_of error) (line_named error))

-- The refusal of a log's text, if it is refused.
unfoldable pub log_refusal : Text → List ℕ → Option Refusal
log_refusal name text = log_refused name (log_fault text)

-- The log is read, and its text is the task, with the form in which it is to be printed.
abbrev pub report_reading : ReportJob → Reading ReportTask
report_reading job =
    reading_text (log_refusal job.log) job.log (λ text. Done (record { form = job.form; text = text }))

-- What `report` reads and refuses, by the words after it.
abbrev pub report_words : List Text → Reading ReportTask
report_words words = asked (report_job_of words) report_reading
