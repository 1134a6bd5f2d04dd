-- What reading the inputs of a merge tells about them.
use Rattle.std.specs.Prelude.{◌≡◌, ◌≤◌, ℕ, ◌+◌, List, [], ◌∷◌, ◌++◌, Option, None, length}
use Rattle.mm_base.specs.Files.{Files}
use Rattle.text_base.specs.Lines.{lines_of}
use Rattle.packet_record.specs.declared.packet.Row.{Row}
use Rattle.trace_reader.specs.Traces.{TraceView}
use Rattle.nest_spec.specs.Nests.{opportunities_of}
use Rattle.nest_spec.specs.Words.{NestPlan}
use Rattle.command_ends.specs.Causes.{Text}
use Rattle.command_ends.specs.Stops.{IsInput}
use Rattle.nest_command.specs.Loaded.{HasSchedule, HaveTraces}
use Rattle.command_merge.specs.List.{list_refusal}
use Rattle.command_merge.specs.Merge.{MergeJob}
use Rattle.command_merge.specs.MergeReading.{refused_listed, refused_total}

-- The traces of a merge were read, and have few enough opportunities.
pub record HasTraces (told : Option Files) (job : MergeJob) (plan : NestPlan) (traces : List TraceView) : Type 0 where
  pub texts : List (List ℕ)
  pub have : HaveTraces told plan.traces texts traces
  pub few : opportunities_of job.horizon plan.shells traces ≤ 16000000

-- After schedules with `before` lines in all, the file `name` has `text`, which is that of `rows`.
pub record HasNext (told : Option Files) (before : ℕ) (name : Text) (text : List ℕ) (rows : List Row) : Type 0 where
  pub has : HasSchedule told name text rows
  pub accepted : refused_total name (before + length (lines_of text)) ≡ None

-- The files have the texts, which are those of the schedules. The number is how many lines the schedules before them
-- have in all.
pub data HaveSchedules (told : Option Files) : ℕ → List Text → List (List ℕ) → List (List Row) → Type 0 where
  NoSchedules : (before : ℕ) → HaveSchedules told before [] [] []
  MoreSchedules : (before : ℕ) (name : Text) (names : List Text) (text : List ℕ) (texts : List (List ℕ))
      (rows : List Row) (more : List (List Row))
      → HasNext told before name text rows
      → HaveSchedules told (before + length (lines_of text)) names texts more
      → HaveSchedules told before (name ∷ names) (text ∷ texts) (rows ∷ more)

-- After schedules with `before` lines in all, the schedules in the files `names` were added.
pub record AddsSchedules (told : Option Files) (before : ℕ) (names : List Text) (old new : List (List Row)) : Type 0
  where
    pub texts : List (List ℕ)
    pub more : List (List Row)
    pub have : HaveSchedules told before names texts more
    pub added : new ≡ old ++ more

-- The list was read, no output has a name that it has, and the schedules are those that it names.
pub record HasSenders (told : Option Files) (job : MergeJob) (plan : NestPlan) (schedules : List (List Row)) : Type 0
  where
    pub list : List ℕ
    pub input : IsInput told job.senders list
    pub accepted : list_refusal job.senders list ≡ None
    pub free : refused_listed job plan list ≡ None
    pub texts : List (List ℕ)
    pub have : HaveSchedules told 0 (lines_of list) texts schedules
