-- What `merge` is asked for, and what it gives.
use Rattle.std.specs.Prelude.{◌≡◌, ℕ, List, [], ◌∷◌, ◌++◌, Option, Some, None, map}
use Rattle.std.specs.Prelude.{option_and_then}
use Rattle.text_base.specs.Numbers.{decimal_of}
use Rattle.packet_record.specs.Schedules.{IsScheduleText}
use Rattle.packet_record.specs.declared.packet.Row.{Row}
use Rattle.trace_reader.specs.Traces.{TraceView}
use Rattle.nest_spec.specs.Nests.{NestParts, RunLists, built, result_of}
use Rattle.nest_spec.specs.Once.{HaveOneFate}
use Rattle.nest_spec.specs.Words.{NestPlan}
use Rattle.sender_merge.specs.Merges.{merge_rows}
use Rattle.option_words.specs.Commands.{table_of}
use Rattle.option_words.specs.Givens.{◌>>=◌}
use Rattle.option_words.specs.Numbers.{seed_of}
use Rattle.option_words.specs.Shells.{split_words}
use Rattle.option_words.specs.declared.command.Command.TheVariants.{Merge}
use Rattle.command_ends.specs.Causes.{Text}
use Rattle.command_ends.specs.Outputs.{NamedText, Output, writes}
use Rattle.nest_command.specs.Inputs.{AreTraceTexts}
use Rattle.nest_command.specs.RunFiles.{log_file, packet_files}
use Rattle.command_merge.specs.FateLines.{merged_entry, merged_fate_line}

-- the horizon in milliseconds, the names of the list of senders and of the files of the fates and of the table, if there
-- is one, the seed, and the words of the shells
pub record MergeJob : Type 0 where
  pub horizon : ℕ
  pub senders : Text
  pub out : Text
  pub table : Option Text
  pub seed : ℕ
  pub shells : List Text

-- The job of what is given of each option, and of the words of the shells. The numbers are decimals; `--until`,
-- `--senders` and `--out` must be there.
unfoldable pub merge_from : List (Option Text) → List Text → Option MergeJob
merge_from (until ∷ senders ∷ out ∷ table ∷ seed ∷ []) shells = do
  given_until ← until
  horizon ← decimal_of given_until
  number ← seed_of seed
  given_senders ← senders
  given_out ← out
  Some (record {
    horizon = horizon;
    senders = given_senders;
    out = given_out;
    table = table;
    seed = number;
    shells = shells;
  })
merge_from _ shells = None

-- The job of the words after `merge`.
unfoldable pub merge_of : List Text → Option MergeJob
merge_of words = option_and_then (λ split. merge_from split.given split.shells) (split_words (table_of Merge) words)

-- a job whose words ask for the nest `plan`, and the texts of its traces and of its senders' schedules
pub record MergeTask : Type 0 where
  pub job : MergeJob
  pub plan : NestPlan
  pub traces : List (List ℕ)
  pub schedules : List (List ℕ)

-- the nest of the shells' words with `traces`
abbrev pub nest_for : MergeJob → NestPlan → List TraceView → NestParts
nest_for job plan traces = built plan traces job.seed job.horizon

-- each text is that of the schedule at the same place
abbrev pub AreScheduleTexts : List (List ℕ) → List (List Row) → Type 0
AreScheduleTexts [] [] = Unit {0}
AreScheduleTexts [] (rows ∷ schedules) = ⊥
AreScheduleTexts (text ∷ texts) [] = ⊥
AreScheduleTexts (text ∷ texts) (rows ∷ schedules) = IsScheduleText text rows × AreScheduleTexts texts schedules

-- the files of a merge of `rows`: of each log that has a name, in the order of the shells, up before down; then of the
-- table, if one is asked for; and then of the fates, both in the order of the merge
abbrev pub merge_files : Option Text → Text → List Row → RunLists → List NamedText
merge_files table out rows run =
    map log_file run.logs ++ packet_files merged_entry merged_fate_line table out rows run.fates

-- A merge gives the files of the result of its nest over the merge of the senders' schedules. Each row has one fate.
pub record GivesMerge (task : MergeTask) (output : Output) : Type 0 where
  pub traces : List TraceView
  pub traces_are : AreTraceTexts task.traces traces
  pub schedules : List (List Row)
  pub schedules_are : AreScheduleTexts task.schedules schedules
  pub once : HaveOneFate (nest_for task.job task.plan traces) (merge_rows schedules)
  pub output_is : output ≡ writes (merge_files task.job.table task.job.out (merge_rows schedules)
      (result_of (nest_for task.job task.plan traces) (merge_rows schedules)))
