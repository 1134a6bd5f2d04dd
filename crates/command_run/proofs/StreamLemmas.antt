-- Why a streamed run gives no result.
use Rattle.std.proofs.Common.{◌≡◌, ◌≢◌, ℕ, ◌<◌, Bool, true, List, Option, Some, length, refl, ap, sym, subst, ◌∙◌}
use Rattle.mm_base.specs.Counts.{Rose}
use Rattle.mm_base.specs.Disk.{DiskView, FailsReading}
use Rattle.mm_base.specs.Files.{Files, IfHeld, IsAbsent, IsThere, file}
use Rattle.text_base.specs.Lines.{lines_of}
use Rattle.mm_base.specs.declared.errors.LoadError.TheVariants as load_errors
use Rattle.mm_base.proofs.FilesLemmas.{is_held}
use Rattle.packet_record.specs.Schedules.{first_fault}
use Rattle.packet_record.specs.declared.reading.ScheduleError.{ScheduleError}
use Rattle.packet_record.specs.declared.reading.ScheduleError.TheVariants.{OutOfMemory as Wants}
use Rattle.packet_record.specs.declared.packet.Row.{Row}
use Rattle.nest_spec.specs.Nests.{NestParts, RunLists, result_of}
use Rattle.nest_spec.specs.Once.{HaveOneFate}
use Rattle.shell_workers.specs.StreamParts.{IsText}
use Rattle.nest_runner.specs.Streaming.{HasStreamCause, IsRefusedFor, IsScheduleOf}
use Rattle.nest_runner.specs.declared.stream_error.StreamError.TheVariants.{TooLong}
use Rattle.command_ends.specs.Causes.{Text}
use Rattle.command_ends.specs.Readings.{Done, unless}
use Rattle.command_ends.specs.Stops.{IsInput, RefusesText, ReadingWants, StopsAtFile, StopsReading}
use Rattle.command_ends.specs.declared.cause.Cause.{Cause}
use Rattle.command_ends.specs.declared.cause.Cause.TheVariants.{OutOfMemory, ReadFault, Refused}
use Rattle.command_ends.specs.declared.cause.Limit.TheVariants.{File}
use Rattle.command_ends.specs.declared.cause.Refusal.TheVariants.{Absent, Limit}
use Rattle.command_ends.proofs.InputLemmas.{load_stops}
use Rattle.command_ends.proofs.ReadingLemmas.{stops_at, text_stops}
use Rattle.nest_command.specs.Inputs.{reading_schedule, schedule_refusal}
use Rattle.nest_command.specs.Loaded.{HasSchedule}
use Rattle.command_run.specs.inside.Loaded.{HasRun}
use Rattle.nest_command.proofs.InputLemmas.{schedule_accepted, schedule_text}

text_input : (told : Option Files) (name : Text) (bytes : List ℕ) → IsText told name bytes → IsInput told name bytes
text_input told name bytes is = record {
  held = λ m t.
      let there = is_held (file m name) (is.there m t) in
      there.1 ∙ ap Some (sym (is.held m there.0 t there.1));
  few = is.few;
}

at_file : (name : Text) (old new : DiskView) (cause : Cause) → StopsAtFile name old new cause
    → StopsReading (reading_schedule name Done) old new cause
at_file name old new cause stopped =
    stops_at name (λ text. unless (schedule_refusal name text) (Done text)) old new cause stopped

pub absent_stop : (name : Text) (old new : DiskView) → IsAbsent old.files name × Rose old.absences new.absences
    → StopsReading (reading_schedule name Done) old new (Refused (Absent name))
absent_stop name old new h = at_file name old new _ (load_stops name old new load_errors.Absent (λ _. h.0) (λ _. h.1)
    (λ e. absurd (cc e)) (λ size e. absurd (cc e)))

pub failed_stop : (name : Text) (old new : DiskView) → FailsReading name old new
    → StopsReading (reading_schedule name Done) old new (ReadFault name)
failed_stop name old new h = at_file name old new _ (load_stops name old new load_errors.Failed
    (λ e. absurd (cc e)) (λ e. absurd (cc e)) (λ _. h) (λ size e. absurd (cc e)))

pub wants_stop : (name : Text) (old new : DiskView)
    → StopsReading (reading_schedule name Done) old new OutOfMemory
wants_stop name old new = ReadingWants refl

pub long_stop : (name : Text) (old new : DiskView) (size : ℕ) → HasStreamCause old new name (TooLong size)
    → StopsReading (reading_schedule name Done) old new (Refused (Limit (File name)))
long_stop name old new size h = at_file name old new _ (load_stops name old new (load_errors.TooLong size)
    (λ e. absurd (cc e)) (λ e. absurd (cc e)) (λ e. absurd (cc e)) (λ n e. let same : size ≡ n = cc e in
    subst (λ k. (67108864 < k) × IsThere old.files name × IfHeld old.files name (λ bytes. k ≡ length bytes)) same
    (h.0, h.1, h.2)))

pub text_stop : (name : Text) (old new : DiskView) (error : ScheduleError) (cause : Cause)
    → IsRefusedFor old.files name error
    → ((text : List ℕ) → (error ≢ Wants → first_fault 1 0 (lines_of text) ≡ Some error)
    → RefusesText (schedule_refusal name text) cause) → StopsReading (reading_schedule name Done) old new cause
text_stop name old new error cause refused says =
    text_stops old new (schedule_refusal name) name Done refused.bytes cause
    (text_input old.files name refused.bytes refused.text)
    (λ refusal e. (schedule_text name refused.bytes refusal e).not_absent) (says refused.bytes (λ _. refused.fault_is))

-- the run of a schedule that was read while its packets passed
pub streamed_run : (told : Option Files) (name : Text) (nest : NestParts) (rows : List Row) (run : RunLists)
    → IsScheduleOf told name rows → run ≡ result_of nest rows → HaveOneFate nest rows
    → HasRun told name nest true rows run
streamed_run told name nest rows run schedule is once = record {
  text = schedule.bytes;
  rows = rows;
  schedule = record {
    input = text_input told name schedule.bytes schedule.text;
    accepted = schedule_accepted name schedule.bytes schedule.accepted;
    rows_are = schedule.rows_are;
  };
  result_is = is;
  once = once;
  kept_are = λ keeps. refl;
}

-- The rows of a run, which were kept, are kept as they are wanted.
pub kept_run : (told : Option Files) (name : Text) (nest : NestParts) (rows kept : List Row) (run : RunLists)
    (keeps : Bool) → HasRun told name nest true rows run → (keeps ≡ true → kept ≡ rows)
    → HasRun told name nest keeps kept run
kept_run told name nest rows kept run keeps has are = record {
  text = has.text;
  rows = has.rows;
  schedule = has.schedule;
  result_is = has.result_is;
  once = has.once;
  kept_are = λ e. are e ∙ has.kept_are refl;
}

-- the run of a schedule that was read before
pub read_run : (told : Option Files) (name : Text) (nest : NestParts) (rows kept : List Row) (run : RunLists)
    (keeps : Bool) → ((text : List ℕ) × HasSchedule told name text rows) → run ≡ result_of nest rows
    → HaveOneFate nest rows → (keeps ≡ true → kept ≡ rows) → HasRun told name nest keeps kept run
read_run told name nest rows kept run keeps read is once are =
    record { text = read.0; rows = rows; schedule = read.1; result_is = is; once = once; kept_are = are }
