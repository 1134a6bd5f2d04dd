-- What `run` is asked for, and what it gives.
use Rattle.std.specs.Prelude.{◌≡◌, ℕ, Bool, List, [], ◌∷◌, Option, Some, None, option_and_then, is_some, ◌&&◌}
use Rattle.std.specs.Prelude.{if◌then◌else◌}
use Rattle.text_base.specs.Numbers.{decimal_of}
use Rattle.packet_record.specs.Schedules.{IsScheduleText}
use Rattle.packet_record.specs.declared.packet.Row.{Row}
use Rattle.trace_reader.specs.Traces.{TraceView}
use Rattle.nest_spec.specs.Nests.{NestParts, built, result_of}
use Rattle.nest_spec.specs.Once.{HaveOneFate}
use Rattle.nest_spec.specs.Words.{NestPlan}
use Rattle.option_words.specs.Commands.{table_of}
use Rattle.option_words.specs.Givens.{◌>>=◌}
use Rattle.option_words.specs.Numbers.{seed_of}
use Rattle.option_words.specs.Shells.{split_words}
use Rattle.option_words.specs.declared.command.Command.TheVariants.{Run}
use Rattle.command_ends.specs.Causes.{Text}
use Rattle.command_ends.specs.Outputs.{Output, writes}
use Rattle.nest_command.specs.Inputs.{AreTraceTexts}
use Rattle.nest_command.specs.RunFiles.{run_files}

-- the horizon in milliseconds, the names of the files, with those of the table and of the order if there is one, the
-- seed, whether packets pass shell by shell, and the words of the shells
pub record RunJob : Type 0 where
  pub horizon : ℕ
  pub schedule : Text
  pub out : Text
  pub table : Option Text
  pub seed : ℕ
  pub plain : Bool
  pub order : Option Text
  pub shells : List Text

-- The job of what is given of each option, and of the words of the shells. The numbers are decimals; `--until`,
-- `--schedule` and `--out` must be there; `--plain` and `--order` exclude each other.
unfoldable pub run_from : List (Option Text) → List Text → Option RunJob
run_from (until ∷ schedule ∷ out ∷ table ∷ seed ∷ plain ∷ order ∷ []) shells =
    if is_some plain && is_some order then None else do
      given_until ← until
      horizon ← decimal_of given_until
      number ← seed_of seed
      given_schedule ← schedule
      given_out ← out
      Some (record {
        horizon = horizon;
        schedule = given_schedule;
        out = given_out;
        table = table;
        seed = number;
        plain = is_some plain;
        order = order;
        shells = shells;
      })
run_from _ shells = None

-- The job of the words after `run`.
unfoldable pub run_of : List Text → Option RunJob
run_of words = option_and_then (λ split. run_from split.given split.shells) (split_words (table_of Run) words)

-- a job whose words ask for the nest `plan`, and the texts of its traces and of its schedule
pub record RunTask : Type 0 where
  pub job : RunJob
  pub plan : NestPlan
  pub traces : List (List ℕ)
  pub schedule : List ℕ

-- the nest of the shells' words with `traces`
abbrev pub nest_with : RunJob → NestPlan → List TraceView → NestParts
nest_with job plan traces = built plan traces job.seed job.horizon

-- A run gives the files of its result, over the traces and the rows that the texts state. Each row has one fate.
pub record GivesRun (task : RunTask) (output : Output) : Type 0 where
  pub traces : List TraceView
  pub traces_are : AreTraceTexts task.traces traces
  pub rows : List Row
  pub rows_are : IsScheduleText task.schedule rows
  pub once : HaveOneFate (nest_with task.job task.plan traces) rows
  pub output_is : output
      ≡ writes (run_files task.job.table task.job.out rows (result_of (nest_with task.job task.plan traces) rows))
