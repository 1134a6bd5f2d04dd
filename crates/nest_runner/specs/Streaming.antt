-- A schedule that is read while its packets pass the nest.
use Rattle.std.specs.Prelude.{◌≡◌, ◌≢◌, ◌<◌, ℕ, List, Option, Some, None, length}
use Rattle.mm_base.specs.Counts.{Rose}
use Rattle.mm_base.specs.Disk.{DiskView, FailsReading}
use Rattle.mm_base.specs.Files.{Files, IfHeld, IsAbsent, IsThere}
use Rattle.text_base.specs.Lines.{lines_of}
use Rattle.mm_base.specs.declared.errors.DiskError.{DiskError}
use Rattle.mm_base.specs.declared.errors.DiskError.TheVariants as disk_errors
use Rattle.mm_base.specs.declared.errors.LoadError.{LoadError}
use Rattle.mm_base.specs.declared.errors.LoadError.TheVariants as load_errors
use Rattle.packet_record.specs.declared.packet.Row.{Row}
use Rattle.packet_record.specs.declared.reading.ScheduleError.{ScheduleError}
use Rattle.packet_record.specs.declared.reading.ScheduleError.TheVariants as schedule_errors
use Rattle.packet_record.specs.Schedules.{IsScheduleText, first_fault}
use Rattle.nest_spec.specs.Nests.{NestParts, RunLists, result_of}
use Rattle.nest_spec.specs.Once.{HaveOneFate}
use Rattle.shell_workers.specs.StreamParts.{IsText}
use Rattle.nest_runner.specs.declared.stream_error.StreamError.{StreamError}
use Rattle.nest_runner.specs.declared.stream_error.StreamError.TheVariants as stream_errors

-- The bytes of the file are the text of a schedule with the rows `rows`.
pub record IsScheduleOf (told : Option Files) (name : List ℕ) (rows : List Row) : Type 0 where
  pub bytes : List ℕ
  pub text : IsText told name bytes
  pub accepted : first_fault 1 0 (lines_of bytes) ≡ None
  pub rows_are : IsScheduleText bytes rows

-- The bytes of the file are the text of a schedule, and `run` is the result of its rows.
pub record StreamsTo (told : Option Files) (name : List ℕ) (nest : NestParts) (run : RunLists) : Type 0 where
  pub rows : List Row
  pub schedule : IsScheduleOf told name rows
  pub result_is : run ≡ result_of nest rows
  pub once : HaveOneFate nest rows

-- The bytes of the file aren't the text of a schedule, and `error` is their first refusal.
pub record IsRefusedFor (told : Option Files) (name : List ℕ) (error : ScheduleError) : Type 0 where
  pub bytes : List ℕ
  pub text : IsText told name bytes
  pub fault_is : first_fault 1 0 (lines_of bytes) ≡ Some error
  pub cause : error ≢ schedule_errors.OutOfMemory

-- why a streamed run gives no result
abbrev pub HasStreamCause : DiskView → DiskView → List ℕ → StreamError → Type 0
HasStreamCause old new name stream_errors.Absent = IsAbsent old.files name × Rose old.absences new.absences
HasStreamCause old new name stream_errors.Failed = FailsReading name old new
HasStreamCause old new name stream_errors.OutOfMemory = Unit {0}
HasStreamCause old new name (stream_errors.TooLong size) = (67108864 < size) × IsThere old.files name
    × IfHeld old.files name (λ bytes. size ≡ length bytes)
HasStreamCause old new name (stream_errors.Schedule error) = IsRefusedFor old.files name error

-- an error of the disk as one of a streamed run
abbrev pub of_disk : DiskError → StreamError
of_disk disk_errors.Absent = stream_errors.Absent
of_disk disk_errors.Failed = stream_errors.Failed
of_disk disk_errors.OutOfMemory = stream_errors.OutOfMemory

-- an error of asking for the size as one of a streamed run
abbrev pub of_load : LoadError → StreamError
of_load load_errors.Absent = stream_errors.Absent
of_load load_errors.Failed = stream_errors.Failed
of_load load_errors.OutOfMemory = stream_errors.OutOfMemory
of_load (load_errors.TooLong size) = stream_errors.TooLong size

-- a refusal of the text as an error of a streamed run
abbrev pub of_schedule : ScheduleError → StreamError
of_schedule schedule_errors.OutOfMemory = stream_errors.OutOfMemory
of_schedule (schedule_errors.BadLine line) = stream_errors.Schedule (schedule_errors.BadLine line)
of_schedule (schedule_errors.BadSize line) = stream_errors.Schedule (schedule_errors.BadSize line)
of_schedule (schedule_errors.Decreasing line) = stream_errors.Schedule (schedule_errors.Decreasing line)
of_schedule schedule_errors.TooMany = stream_errors.Schedule schedule_errors.TooMany
