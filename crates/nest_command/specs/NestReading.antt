-- What the words of a nest, its horizon and its traces are refused for.
use Rattle.std.specs.Prelude.{◌≡◌, ℕ, List, [], ◌∷◌, ◌++◌, Option, Some, None, Result, Ok, Err, nat_lt, if◌then◌else◌}
use Rattle.std.specs.Prelude.{option_to_list}
use Rattle.trace_reader.specs.Traces.{TraceView}
use Rattle.nest_spec.specs.NestFaults.{number_of, place_of, inner_of}
use Rattle.nest_spec.specs.Nests.{opportunities_of}
use Rattle.nest_spec.specs.Words.{NestPlan, nest_of}
use Rattle.nest_spec.specs.declared.error.NestError.{NestError}
use Rattle.nest_spec.specs.declared.shell.Shell.{Shell}
use Rattle.nest_spec.specs.declared.shell_words.LinkSide.{LinkSide}
use Rattle.command_ends.specs.Causes.{Text}
use Rattle.command_ends.specs.Names.{refused_names}
use Rattle.command_ends.specs.Readings.{Reading, Refuses, unless}
use Rattle.command_ends.specs.Stops.{RefusesText}
use Rattle.command_ends.specs.declared.cause.Cause.{Cause}
use Rattle.command_ends.specs.declared.cause.Cause.TheVariants.{OutOfMemory, Refused}
use Rattle.command_ends.specs.declared.cause.Limit.TheVariants.{Horizon, Opportunities}
use Rattle.command_ends.specs.declared.cause.Refusal.{Refusal}
use Rattle.command_ends.specs.declared.cause.Refusal.TheVariants.{Words, Limit}
use Rattle.command_ends.specs.declared.cause.WordsRefusal.TheVariants.{Nest}

-- the refusal of words that name no nest
abbrev pub nest_refusal : NestError → Refusal
nest_refusal error = Words (Nest (number_of error) (place_of error) (inner_of error))

-- words that name no nest are refused; `next` goes on with the plan of others
abbrev pub with_nest : {A : Type 0} → Result NestPlan NestError → (NestPlan → Reading A) → Reading A
with_nest (Err error) next = Refuses (nest_refusal error)
with_nest (Ok plan) next = next plan

-- a horizon past an hour is refused
unfoldable pub refused_horizon : ℕ → Option Refusal
refused_horizon horizon = if nat_lt 3600000 horizon then Some (Limit Horizon) else None

-- more than 16,000,000 opportunities up to the horizon are refused, both directions together
unfoldable pub refused_count : ℕ → List (Shell LinkSide) → List TraceView → Option Refusal
refused_count horizon shells traces = if nat_lt 16000000 (opportunities_of horizon shells traces)
    then Some (Limit Opportunities) else None

-- the names of the outputs after the logs: of the table, if one is asked for, and of the fates
abbrev pub packet_outputs : Option Text → Text → List Text
packet_outputs table out = option_to_list table ++ out ∷ []

-- an output that has the name of a trace, of another input, or of an output before it is refused; the outputs are the
-- logs, in the order of the shells, up before down, and then `outs`
abbrev pub refused_outputs : List Text → List Text → NestPlan → Option Refusal
refused_outputs inputs outs plan = refused_names (plan.traces ++ inputs) (plan.logs ++ outs)

-- Words that name no nest, names that are taken and a horizon past an hour are refused before any file is read.
abbrev pub plan_reading : {A : Type 0} → List Text → List Text → List Text → ℕ → (NestPlan → Reading A) → Reading A
plan_reading shells inputs outs horizon next =
    with_nest (nest_of shells) (λ plan.
    unless (refused_outputs inputs outs plan) (
    unless (refused_horizon horizon) (
    next plan)))

-- the words name this plan, and nothing is refused
pub record IsPlan (shells inputs outs : List Text) (horizon : ℕ) (plan : NestPlan) : Type 0 where
  pub named : nest_of shells ≡ Ok plan
  pub free : refused_outputs inputs outs plan ≡ None
  pub within : refused_horizon horizon ≡ None

-- why there is no such plan: the first of what is refused, or out of memory
pub data StopsPlan (shells inputs outs : List Text) (horizon : ℕ) (cause : Cause) : Type 0 where
  WantsMemory : cause ≡ OutOfMemory → StopsPlan shells inputs outs horizon cause
  NoNest : (error : NestError) → nest_of shells ≡ Err error → cause ≡ Refused (nest_refusal error)
      → StopsPlan shells inputs outs horizon cause
  Taken : (plan : NestPlan) → nest_of shells ≡ Ok plan → RefusesText (refused_outputs inputs outs plan) cause
      → StopsPlan shells inputs outs horizon cause
  TooLong : (plan : NestPlan) → nest_of shells ≡ Ok plan → refused_outputs inputs outs plan ≡ None
      → RefusesText (refused_horizon horizon) cause → StopsPlan shells inputs outs horizon cause
