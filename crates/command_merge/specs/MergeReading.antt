-- What `merge` reads and refuses, in order.
use Rattle.std.specs.Prelude.{ℕ, ◌+◌, List, [], ◌∷◌, ◌++◌, Option, Some, None, length, map, nat_lt, if◌then◌else◌}
use Rattle.text_base.specs.Lines.{lines_of}
use Rattle.trace_reader.specs.TraceIn.{trace_in}
use Rattle.nest_spec.specs.Words.{NestPlan}
use Rattle.command_ends.specs.Causes.{Text}
use Rattle.command_ends.specs.Names.{refused_names}
use Rattle.command_ends.specs.Readings.{Reading, Done, asked, reading_text, unless}
use Rattle.command_ends.specs.declared.cause.Limit.TheVariants.{Packets}
use Rattle.command_ends.specs.declared.cause.Refusal.{Refusal}
use Rattle.command_ends.specs.declared.cause.Refusal.TheVariants.{Limit}
use Rattle.nest_command.specs.Inputs.{reading_schedule, reading_traces}
use Rattle.nest_command.specs.NestReading.{packet_outputs, plan_reading, refused_count}
use Rattle.command_merge.specs.List.{list_refusal}
use Rattle.command_merge.specs.Merge.{MergeJob, MergeTask, merge_of}

-- the names of the outputs: the logs, in the order of the shells, up before down, the table, if there is one, and the
-- fates
abbrev pub output_names : MergeJob → NestPlan → List Text
output_names job plan = plan.logs ++ packet_outputs job.table job.out

-- an output that has a name on a line of the list is refused
abbrev pub refused_listed : MergeJob → NestPlan → List ℕ → Option Refusal
refused_listed job plan list = refused_names (lines_of list) (output_names job plan)

-- schedules with more than 1,000,000 lines in all, up to that in the file `name`, are refused
unfoldable pub refused_total : Text → ℕ → Option Refusal
refused_total name lines = if nat_lt 1000000 lines then Some (Limit (Packets name)) else None

-- The file `name` is read, whose text must be a schedule. The schedules before it have `before` lines in all.
abbrev pub reading_next : {A : Type 0} → ℕ → Text → (List ℕ → Reading A) → Reading A
reading_next before name next =
    reading_schedule name (λ text. unless (refused_total name (before + length (lines_of text))) (next text))

-- The files `names` are read, each before the next, whose texts must be schedules. The schedules before them have
-- `before` lines in all.
abbrev pub reading_schedules : {A : Type 0} → ℕ → List Text → (List (List ℕ) → Reading A) → Reading A
reading_schedules before [] next = next []
reading_schedules before (name ∷ names) next =
    reading_next before name (λ text.
    reading_schedules (before + length (lines_of text)) names (λ texts. next (text ∷ texts)))

-- the schedules that the list names are read, in its order
abbrev pub schedule_inputs : MergeJob → NestPlan → List (List ℕ) → List ℕ → Reading MergeTask
schedule_inputs job plan traces list =
    reading_schedules 0 (lines_of list) (λ schedules.
    Done (record { job = job; plan = plan; traces = traces; schedules = schedules }))

-- the list is read, and then the schedules that it names
abbrev pub sender_inputs : MergeJob → NestPlan → List (List ℕ) → Reading MergeTask
sender_inputs job plan traces =
    reading_text (list_refusal job.senders) job.senders (λ list.
    unless (refused_listed job plan list) (
    schedule_inputs job plan traces list))

-- The traces are read, in the order of the shells, up before down; then the list; then the schedules.
abbrev pub merge_inputs : MergeJob → NestPlan → Reading MergeTask
merge_inputs job plan =
    reading_traces plan.traces (λ traces.
    unless (refused_count job.horizon plan.shells (map trace_in traces)) (
    sender_inputs job plan traces))

-- Words that name no nest, names that are taken and a horizon past an hour are refused before any file is read.
abbrev pub merge_reading : MergeJob → Reading MergeTask
merge_reading job =
    plan_reading job.shells (job.senders ∷ []) (packet_outputs job.table job.out) job.horizon (merge_inputs job)

-- what `merge` reads and refuses by the words after it
abbrev pub merge_words : List Text → Reading MergeTask
merge_words words = asked (merge_of words) merge_reading
