-- What `run` reads and refuses, in order.
use Rattle.std.specs.Prelude.{List, ◌∷◌, Option, Some, None, map}
use Rattle.std.specs.Prelude.{option_to_list}
use Rattle.nest_spec.specs.Words.{NestPlan}
use Rattle.command_ends.specs.Causes.{Text}
use Rattle.command_ends.specs.Readings.{Reading, Done, Reads, asked, unless}
use Rattle.nest_command.specs.Inputs.{reading_schedule, reading_traces}
use Rattle.nest_command.specs.NestReading.{packet_outputs, plan_reading, refused_count}
use Rattle.command_run.specs.Run.{RunJob, RunTask, run_of}
use Rattle.trace_reader.specs.TraceIn.{trace_in}

-- the names of the inputs beside the traces: the schedule, and the order if there is one
abbrev pub input_names : RunJob → List Text
input_names job = job.schedule ∷ option_to_list job.order

-- The file of the order is read, if there is one. Any bytes are an order, and the run gives the same by each.
abbrev pub reading_order : {A : Type 0} → Option Text → Reading A → Reading A
reading_order None next = next
reading_order (Some name) next = Reads name (λ order. next)

-- The traces are read, in the order of the shells, up before down; then the order, if there is one; then the schedule.
abbrev pub run_inputs : RunJob → NestPlan → Reading RunTask
run_inputs job plan =
    reading_traces plan.traces (λ traces.
    unless (refused_count job.horizon plan.shells (map trace_in traces)) (
    reading_order job.order (
    reading_schedule job.schedule (λ schedule.
    Done (record { job = job; plan = plan; traces = traces; schedule = schedule })))))

-- Words that name no nest, names that are taken and a horizon past an hour are refused before any file is read.
abbrev pub run_reading : RunJob → Reading RunTask
run_reading job =
    plan_reading job.shells (input_names job) (packet_outputs job.table job.out) job.horizon (run_inputs job)

-- what `run` reads and refuses by the words after it
abbrev pub run_words : List Text → Reading RunTask
run_words words = asked (run_of words) run_reading
