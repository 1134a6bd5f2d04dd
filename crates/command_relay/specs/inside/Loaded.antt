-- What reading the inputs of a relay leaves, for the bodies that read them.
use Rattle.std.specs.Prelude.{◌≡◌, ◌≤◌, ℕ, List, Option}
use Rattle.mm_base.specs.Files.{Files}
use Rattle.trace_reader.specs.Traces.{TraceView}
use Rattle.nest_spec.specs.Nests.{NestParts, opportunities_of}
use Rattle.nest_spec.specs.Words.{NestPlan}
use Rattle.nest_command.specs.Loaded.{HaveTraces}
use Rattle.command_relay.specs.Jobs.{RelayJob}
use Rattle.command_relay.specs.Relaying.{nest_for}

-- the traces of a relay are read, and few enough opportunities are theirs
pub record HasNest (told : Option Files) (job : RelayJob) (plan : NestPlan) (nest : NestParts) : Type 0 where
  pub texts : List (List ℕ)
  pub traces : List TraceView
  pub have : HaveTraces told plan.traces texts traces
  pub few : opportunities_of job.horizon plan.shells traces ≤ 16000000
  pub nest_is : nest ≡ nest_for job plan traces
