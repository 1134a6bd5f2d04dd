-- What reading the inputs of a run tells about them.
use Rattle.std.specs.Prelude.{◌≡◌, ◌≤◌, ℕ, Bool, true, List, Option, Some, None}
use Rattle.mm_base.specs.Disk.{DiskView}
use Rattle.mm_base.specs.Files.{Files}
use Rattle.packet_record.specs.declared.packet.Row.{Row}
use Rattle.trace_reader.specs.Traces.{TraceView}
use Rattle.nest_spec.specs.Nests.{NestParts, RunLists, opportunities_of, result_of}
use Rattle.nest_spec.specs.Once.{HaveOneFate}
use Rattle.nest_spec.specs.Words.{NestPlan}
use Rattle.command_ends.specs.Causes.{Text}
use Rattle.command_ends.specs.Stops.{IsInput, StopsAtFile}
use Rattle.command_ends.specs.declared.cause.Cause.{Cause}
use Rattle.command_ends.specs.declared.cause.Cause.TheVariants.{OutOfMemory}
use Rattle.nest_command.specs.Loaded.{HasSchedule, HaveTraces}
use Rattle.command_run.specs.Run.{RunJob, nest_with}

-- the file of the order may be read, if there is one
abbrev pub HasOrder : Option Files → Option Text → Type 0
HasOrder told None = Unit {0}
HasOrder told (Some name) = (bytes : List ℕ) × IsInput told name bytes

-- why the order isn't read
abbrev pub StopsAtOrder : Option Text → DiskView → DiskView → Cause → Type 0
StopsAtOrder None old new cause = cause ≡ OutOfMemory
StopsAtOrder (Some name) old new cause = StopsAtFile name old new cause

-- The file `name` has a schedule, and `run` is the run of its rows through the nest. Each row has one fate. `kept` has
-- the rows, if they are to be kept.
pub record HasRun (told : Option Files) (name : Text) (nest : NestParts) (keeps : Bool) (kept : List Row)
    (run : RunLists) : Type 0 where
  pub text : List ℕ
  pub rows : List Row
  pub schedule : HasSchedule told name text rows
  pub result_is : run ≡ result_of nest rows
  pub once : HaveOneFate nest rows
  pub kept_are : keeps ≡ true → kept ≡ rows

-- The traces of a run were read, and have few enough opportunities; `nest` is the nest with them.
pub record HasNest (told : Option Files) (job : RunJob) (plan : NestPlan) (nest : NestParts) : Type 0 where
  pub texts : List (List ℕ)
  pub traces : List TraceView
  pub have : HaveTraces told plan.traces texts traces
  pub few : opportunities_of job.horizon plan.shells traces ≤ 16000000
  pub nest_is : nest ≡ nest_with job plan traces
