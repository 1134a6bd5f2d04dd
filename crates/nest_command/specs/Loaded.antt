-- What reading traces and a schedule tells about them.
use Rattle.std.specs.Prelude.{◌≡◌, ℕ, List, [], ◌∷◌, Option, None}
use Rattle.mm_base.specs.Files.{Files}
use Rattle.packet_record.specs.Schedules.{IsScheduleText}
use Rattle.packet_record.specs.declared.packet.Row.{Row}
use Rattle.trace_reader.specs.TraceText.{IsTraceText}
use Rattle.trace_reader.specs.Traces.{TraceView}
use Rattle.command_ends.specs.Causes.{Text}
use Rattle.command_ends.specs.Stops.{IsInput}
use Rattle.nest_command.specs.Inputs.{schedule_refusal, trace_refusal}

-- the file `name` has `text`, which is that of `trace`
pub record HasTrace (told : Option Files) (name : Text) (text : List ℕ) (trace : TraceView) : Type 0 where
  pub input : IsInput told name text
  pub accepted : trace_refusal name text ≡ None
  pub trace_is : IsTraceText text trace

-- the file `name` has `text`, which is that of `rows`
pub record HasSchedule (told : Option Files) (name : Text) (text : List ℕ) (rows : List Row) : Type 0 where
  pub input : IsInput told name text
  pub accepted : schedule_refusal name text ≡ None
  pub rows_are : IsScheduleText text rows

-- the files have the texts, which are those of the traces
pub data HaveTraces (told : Option Files) : List Text → List (List ℕ) → List TraceView → Type 0 where
  NoTraces : HaveTraces told [] [] []
  MoreTraces : (name : Text) (names : List Text) (text : List ℕ) (texts : List (List ℕ)) (trace : TraceView)
      (traces : List TraceView)
      → HasTrace told name text trace → HaveTraces told names texts traces
      → HaveTraces told (name ∷ names) (text ∷ texts) (trace ∷ traces)
