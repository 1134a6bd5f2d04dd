-- What the commands do once their inputs are read: a task for each, and its work.
use Rattle.mm_base.specs.Link.{LinkView}
use Rattle.mm_base.specs.Port.{PortView, KeepsPort}
use Rattle.command_ends.specs.TopCalls.{NetCounts}
use Rattle.command_ends.specs.Works.{Work, only}
use Rattle.command_report.specs.Make.{MakeJob, GivesMake}
use Rattle.command_merge.specs.Merge.{MergeTask, GivesMerge}
use Rattle.command_stores.specs.Replaying.{ReplayTask, serve_work}
use Rattle.command_report.specs.Report.{GivesReport, ReportTask}
use Rattle.command_run.specs.Run.{RunTask, GivesRun}
use Rattle.command_stores.specs.Matching.{MatchTask, GivesMatch}
use Rattle.command_stores.specs.Migrating.{MigrateTask, GivesMigrate}
use Rattle.command_stores.specs.Recording.{RecordTask, GivesRecord}

pub data Task : Type 0 where
  ToRun : RunTask → Task
  -- of a log's text, and of what is printed of it
  ToReport : ReportTask → Task
  ToMake : MakeJob → Task
  ToReplay : ReplayTask → Task
  ToRecord : RecordTask → Task
  ToMatch : MatchTask → Task
  ToMigrate : MigrateTask → Task
  ToMerge : MergeTask → Task

-- The net is a port, of whose connections this is seen.
abbrev pub work : {C : Type 0} → (C → LinkView) → Task → Work (PortView C)
work view (ToRun task) = only GivesRun task
work view (ToReport task) = only GivesReport task
work view (ToMake job) = only GivesMake job
work view (ToRecord task) = only GivesRecord task
work view (ToMatch task) = only GivesMatch task
work view (ToMigrate task) = only GivesMigrate task
work view (ToMerge task) = only GivesMerge task
work view (ToReplay task) = serve_work view task

-- what a port counts and keeps
abbrev pub port_counts : {C : Type 0} → NetCounts (PortView C)
port_counts {C} = record {
  faults = λ (port : PortView C). port.faults;
  keeps = λ (old : PortView C) (new : PortView C). KeepsPort old new;
}
