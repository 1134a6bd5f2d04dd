-- The log of a report, and what stops it.
use Rattle.std.proofs.Common.{◌≡◌, ◌≢◌, inr, ℕ, List, Option, Some, None, Result, Ok, Err, IfOk, IfErr, MatchResult}
use Rattle.std.proofs.Common.{refl, ap, subst, sym}
use Rattle.mm_base.specs.Disk.{DiskView}
use Rattle.mm_base.specs.Files.{Files}
use Rattle.shell_log.specs.Reading.{line_named, log_fault, number_of}
use Rattle.shell_log.specs.declared.reading.LogError.{LogError}
use Rattle.shell_log.specs.declared.reading.LogError.TheVariants as errors
use Rattle.shell_log.specs.Entries.{IsLog}
use Rattle.shell_log.specs.LogText.{log_text}
use Rattle.shell_log.specs.View.{LogView}
use Rattle.shell_log.specs.declared.entry.Entry.{Entry}
use Rattle.log_report.specs.SeriesText.{series_text}
use Rattle.log_report.specs.declared.figures.Report.{Report}
use Rattle.command_ends.specs.Causes.{Text}
use Rattle.command_ends.specs.inside.Ends.{FinishesOnly}
use Rattle.command_ends.specs.Outputs.{prints}
use Rattle.command_ends.specs.Readings.{Done}
use Rattle.command_ends.specs.Stops.{IsInput, RefusesText, StopsReading}
use Rattle.command_ends.specs.declared.cause.Cause.{Cause}
use Rattle.command_ends.specs.declared.cause.Cause.TheVariants.{Refused}
use Rattle.command_ends.specs.declared.cause.Refusal.{Refusal}
use Rattle.command_ends.specs.declared.cause.Refusal.TheVariants.{BadInput}
use Rattle.command_ends.proofs.EndLemmas.{finishes_only}
use Rattle.command_ends.proofs.ReadingLemmas.{IsOfText, RefusesWordsFirst, asked_first, bad_input, leads_text}
use Rattle.command_ends.proofs.ReadingLemmas.{text_stops, unless_no_words}
use Rattle.command_report.specs.Report.{GivesReport, IsReport, ReportJob, printed_of, report_job_of, sums_text}
use Rattle.command_report.specs.ReportReading.{log_refusal, log_refused, report_reading, report_words}
use Rattle.command_report.specs.declared.report_form.ReportForm.{ReportForm}
use Rattle.command_report.specs.declared.report_form.ReportForm.TheVariants.{Sums, Series}
use Rattle.command_report.specs.declared.report_form.SumsForm.{SumsForm}

pub log_said : (name : Text) (text : List ℕ) (error : LogError) (cause : Cause) → error ≢ errors.OutOfMemory
    → log_fault text ≡ Some error
    → cause ≡ Refused (BadInput name (number_of error) (line_named error)) → RefusesText (log_refusal name text) cause
unfolding log_refusal
log_said name text errors.BadHeader cause other h is = inr (
  BadInput name 1 (line_named errors.BadHeader),
  is,
  ap (log_refused name) h,
)
log_said name text (errors.BadLine line) cause other h is = inr (BadInput name 2 line, is, ap (log_refused name) h)
log_said name text (errors.Backwards line) cause other h is = inr (BadInput name 3 line, is, ap (log_refused name) h)
log_said name text errors.OutOfMemory cause other h is = absurd (other refl)

pub log_accepted : (name : Text) (text : List ℕ) → log_fault text ≡ None → log_refusal name text ≡ None
unfolding log_refusal
log_accepted name text e = ap (log_refused name) e

log_status : (name : Text) (fault : Option LogError) (refusal : Refusal) → log_refused name fault ≡ Some refusal
    → IsOfText refusal
log_status name None refusal e = absurd (cc e)
log_status name (Some errors.BadHeader) refusal e = bad_input name 1 (line_named errors.BadHeader) refusal e
log_status name (Some (errors.BadLine line)) refusal e = bad_input name 2 line refusal e
log_status name (Some (errors.Backwards line)) refusal e = bad_input name 3 line refusal e
log_status name (Some errors.OutOfMemory) refusal e = absurd (cc e)

pub log_of_text : (name : Text) (text : List ℕ) (refusal : Refusal) → log_refusal name text ≡ Some refusal
    → IsOfText refusal
unfolding log_refusal
log_of_text name text refusal e = log_status name (log_fault text) refusal e

-- the text that is printed for a log that was read
pub log_found : (job : ReportJob) (told : Option Files) (text : List ℕ) (entries : List Entry)
    → IsInput told job.log text → log_refusal job.log text ≡ None → IsLog entries → text ≡ log_text entries
    → FinishesOnly GivesReport (report_reading job) told (prints (printed_of job.form entries))
log_found job told text entries input accepted log is =
    finishes_only (report_reading job) GivesReport (record { form = job.form; text = text }) told
    (prints (printed_of job.form entries))
    (leads_text told (log_refusal job.log) job.log (λ t. Done (record { form = job.form; text = t })) text input
    accepted)
    (record { entries = entries; log = log; text_is = is; output_is = refl })

-- the report was made
pub report_found : (job : ReportJob) (form : SumsForm) (told : Option Files) (text : List ℕ)
    (result : Result (Option Report) Cause) → job.form ≡ Sums form → IsInput told job.log text
    → IfOk result (λ report. IsReport text report) → MatchResult result (λ _. log_refusal job.log text ≡ None)
    (λ cause. RefusesText (log_refusal job.log text) cause)
    → IfOk result (λ report. FinishesOnly GivesReport (report_reading job) told (prints (sums_text form report)))
report_found job form told text (Ok report) at input is accepted =
    subst (λ (r : Option Report). FinishesOnly GivesReport (report_reading job) told (prints (sums_text form r)))
    (sym is.report_is)
    (subst (λ (f : ReportForm). FinishesOnly GivesReport (report_reading job) told (prints (printed_of f is.entries)))
    at (log_found job told text is.entries input accepted is.log is.text_is))
report_found job form told text (Err cause) at input is accepted = tt

-- the log of a series was read
pub series_found : (job : ReportJob) (every : ℕ) (told : Option Files) (text : List ℕ) (result : Result LogView Cause)
    → job.form ≡ Series every → IsInput told job.log text
    → IfOk result (λ log. IsLog log.entries × (text ≡ log_text log.entries))
    → MatchResult result (λ _. log_refusal job.log text ≡ None) (λ cause. RefusesText (log_refusal job.log text) cause)
    → IfOk result (λ log. FinishesOnly GivesReport (report_reading job) told (prints (series_text every log.entries)))
series_found job every told text (Ok log) at input is accepted =
    subst (λ (f : ReportForm). FinishesOnly GivesReport (report_reading job) told (prints (printed_of f log.entries)))
    at (log_found job told text log.entries input accepted is.0 is.1)
series_found job every told text (Err cause) at input is accepted = tt

-- the log's text is refused
pub report_stop : {T : Type 0} (job : ReportJob) (old new : DiskView) (text : List ℕ) (result : Result T Cause)
    → IsInput old.files job.log text
    → MatchResult result (λ _. log_refusal job.log text ≡ None) (λ cause. RefusesText (log_refusal job.log text) cause)
    → IfErr result (λ cause. StopsReading (report_reading job) old new cause)
report_stop job old new text (Ok value) input answer = tt
report_stop job old new text (Err cause) input answer =
    text_stops old new (log_refusal job.log) job.log (λ t. Done (record { form = job.form; text = t })) text cause input
    (λ refusal e. (log_of_text job.log text refusal e).not_absent) answer

-- words are refused before the log is read
pub report_words_first : (words : List Text) → RefusesWordsFirst (report_words words)
report_words_first words = asked_first (report_job_of words) report_reading (λ job text.
    unless_no_words (log_refusal job.log text) (Done (record { form = job.form; text = text }))
    (λ refusal e. (log_of_text job.log text refusal e).not_words) tt)
