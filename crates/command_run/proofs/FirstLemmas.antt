-- The words of a run are refused before any file is read.
use Rattle.std.proofs.Common.{ℕ, List, Option, Some, None, map}
use Rattle.nest_spec.specs.Words.{NestPlan, nest_of}
use Rattle.command_ends.specs.Causes.{Text}
use Rattle.command_ends.specs.Readings.{Reading, Done}
use Rattle.command_ends.proofs.ReadingLemmas.{RefusesNoWords, RefusesWordsFirst, asked_first}
use Rattle.command_ends.proofs.ReadingLemmas.{unless_no_words}
use Rattle.nest_command.specs.Inputs.{reading_schedule, schedule_refusal}
use Rattle.command_run.specs.RunReading.{reading_order}
use Rattle.command_run.specs.RunReading.{input_names, run_inputs, run_reading}
use Rattle.command_run.specs.RunReading.{run_words}
use Rattle.command_run.specs.Run.{RunJob, RunTask, run_of}
use Rattle.nest_command.specs.NestReading.{packet_outputs, refused_count, refused_outputs}
use Rattle.trace_reader.specs.TraceIn.{trace_in}
use Rattle.nest_command.proofs.InputLemmas.{schedule_text}
use Rattle.nest_command.proofs.NestLemmas.{count_text}
use Rattle.nest_command.proofs.NestRefusals.{nest_first, traces_no_words}

schedule_no_words : (name : Text) (next : List ℕ → Reading RunTask) → ((text : List ℕ) → RefusesNoWords (next text))
    → RefusesNoWords (reading_schedule name next)
schedule_no_words name next none = λ text.
    unless_no_words (schedule_refusal name text) (next text)
    (λ refusal e. (schedule_text name text refusal e).not_words) (none text)

-- once an order is read no words are refused
order_no_words : (order : Option Text) (next : Reading RunTask) → RefusesNoWords next
    → RefusesNoWords (reading_order order next)
order_no_words None next none = none
order_no_words (Some name) next none = λ bytes. none

pub inputs_no_words : (job : RunJob) (plan : NestPlan) → RefusesNoWords (run_inputs job plan)
inputs_no_words job plan =
    traces_no_words plan.traces _ (λ texts.
    unless_no_words (refused_count job.horizon plan.shells (map trace_in texts)) _
    (λ refusal e. (count_text job.horizon plan.shells (map trace_in texts) refusal e).not_words)
    (order_no_words job.order _ (schedule_no_words job.schedule
    (λ schedule. Done (record { job = job; plan = plan; traces = texts; schedule = schedule })) (λ text. tt))))

pub run_words_first : (words : List Text) → RefusesWordsFirst (run_words words)
run_words_first words = asked_first (run_of words) run_reading (λ job.
    nest_first (nest_of job.shells) (refused_outputs (input_names job) (packet_outputs job.table job.out)) job.horizon
    (run_inputs job) (inputs_no_words job))
