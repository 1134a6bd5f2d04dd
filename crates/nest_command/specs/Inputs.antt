-- What a trace and a schedule are refused for, and how their files are read.
use Rattle.std.specs.Prelude.{ℕ, List, [], ◌∷◌, Option, Some, None}
use Rattle.text_base.specs.Lines.{lines_of}
use Rattle.packet_record.specs.Schedules.{first_fault, number_of as schedule_number, place_of as schedule_place}
use Rattle.packet_record.specs.declared.reading.ScheduleError.{ScheduleError}
use Rattle.packet_record.specs.declared.reading.ScheduleError.TheVariants as schedule_errors
use Rattle.trace_reader.specs.Reading.{number_of as trace_number, place_of as trace_place, trace_fault}
use Rattle.trace_reader.specs.TraceText.{IsTraceText}
use Rattle.trace_reader.specs.Traces.{TraceView}
use Rattle.trace_reader.specs.declared.reading.TraceError.{TraceError}
use Rattle.trace_reader.specs.declared.reading.TraceError.TheVariants as trace_errors
use Rattle.command_ends.specs.Causes.{Text}
use Rattle.command_ends.specs.Readings.{Reading, reading_text}
use Rattle.command_ends.specs.declared.cause.Limit.TheVariants.{Lines, Packets}
use Rattle.command_ends.specs.declared.cause.Refusal.{Refusal}
use Rattle.command_ends.specs.declared.cause.Refusal.TheVariants.{BadInput, Limit}

-- the refusal of a trace's text for its error; out of memory is no error of a text
abbrev pub trace_refused : Text → Option TraceError → Option Refusal
trace_refused name None = None
trace_refused name (Some trace_errors.OutOfMemory) = None
trace_refused name (Some trace_errors.TooManyLines) = Some (Limit (Lines name))
trace_refused name (Some error) = Some (BadInput name (trace_number error) (trace_place error))

-- the refusal of a trace's text, if it is refused
unfoldable pub trace_refusal : Text → List ℕ → Option Refusal
trace_refusal name text = trace_refused name (trace_fault text)

-- the refusal of a schedule's text for its error
abbrev pub schedule_refused : Text → Option ScheduleError → Option Refusal
schedule_refused name None = None
schedule_refused name (Some schedule_errors.OutOfMemory) = None
schedule_refused name (Some schedule_errors.TooMany) = Some (Limit (Packets name))
schedule_refused name (Some error) = Some (BadInput name (schedule_number error) (schedule_place error))

-- the refusal of a schedule's text, if it is refused
unfoldable pub schedule_refusal : Text → List ℕ → Option Refusal
schedule_refusal name text = schedule_refused name (first_fault 1 0 (lines_of text))

-- the file `name` is read, whose text must be a trace
abbrev pub reading_trace : {A : Type 0} → Text → (List ℕ → Reading A) → Reading A
reading_trace name next = reading_text (trace_refusal name) name next

-- the file `name` is read, whose text must be a schedule
abbrev pub reading_schedule : {A : Type 0} → Text → (List ℕ → Reading A) → Reading A
reading_schedule name next = reading_text (schedule_refusal name) name next

-- the files `names` are read, each before the next, whose texts must be traces
abbrev pub reading_traces : {A : Type 0} → List Text → (List (List ℕ) → Reading A) → Reading A
reading_traces [] next = next []
reading_traces (name ∷ names) next = reading_trace name (λ text. reading_traces names (λ texts. next (text ∷ texts)))

-- each text is that of the trace at the same place
abbrev pub AreTraceTexts : List (List ℕ) → List TraceView → Type 0
AreTraceTexts [] [] = Unit {0}
AreTraceTexts [] (trace ∷ traces) = ⊥
AreTraceTexts (text ∷ texts) [] = ⊥
AreTraceTexts (text ∷ texts) (trace ∷ traces) = IsTraceText text trace × AreTraceTexts texts traces
