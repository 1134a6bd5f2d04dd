-- Why a streamed run gives no result, and what its lanes have carried.
use Rattle.std.proofs.Common.{◌≡◌, ◌≢◌, ◌∙◌, ap, sym, subst, ℕ, List, Some, Result, Ok, Err, OnOk, IsErrOf}
use Rattle.mm_base.specs.Disk.{DiskView, HasReadCause}
use Rattle.mm_base.specs.Files.{IsAbsent}
use Rattle.text_base.specs.Lines.{lines_of}
use Rattle.mm_base.specs.declared.errors.DiskError.{DiskError}
use Rattle.mm_base.specs.declared.errors.DiskError.TheVariants as disk_errors
use Rattle.packet_record.specs.declared.packet.Direction.{Direction}
use Rattle.packet_record.specs.declared.packet.Direction.TheVariants.{Up, Down}
use Rattle.packet_record.specs.declared.packet.Row.{Row}
use Rattle.packet_record.specs.declared.reading.ScheduleError.{ScheduleError}
use Rattle.packet_record.specs.declared.reading.ScheduleError.TheVariants as schedule_errors
use Rattle.packet_record.specs.PartsRead.{PartRead}
use Rattle.packet_record.specs.Rows.{entering}
use Rattle.packet_record.specs.Schedules.{first_fault}
use Rattle.shell_workers.specs.StreamParts.{AllSent, IsStreamed}
use Rattle.nest_runner.specs.declared.lane.Lane.{Lane}
use Rattle.mark_channel.specs.Boths.{ByDirection, OfBoth}
use Rattle.nest_runner.specs.Lanes.{HasCarried, IsDonePath}
use Rattle.nest_runner.specs.declared.lanes.Lanes.{Lanes}
use Rattle.nest_runner.specs.inside.Lanes.{lanes_of}
use Rattle.nest_runner.specs.Streaming.{HasStreamCause, of_disk, of_schedule}

pub ok_has : {T E : Type 0} (result : Result T E) (value : T) (P : Type 0) → result ≡ Ok value → OnOk result P → P
ok_has {T} {E} result value P is has = subst (λ (r : Result T E). OnOk r P) is has

-- the cause of an error of the disk
pub disk_cause : {T : Type 0} (old new : DiskView) (name : List ℕ) (result : Result T DiskError) (error : DiskError)
    → result ≡ Err error → (IsErrOf result disk_errors.Absent → IsAbsent old.files name)
    → HasReadCause name old new result
    → HasStreamCause old new name (of_disk error)
disk_cause old new name result disk_errors.Absent is absent cause = (absent is, cause.absent is)
disk_cause old new name result disk_errors.Failed is absent cause = cause.failed is
disk_cause old new name result disk_errors.OutOfMemory is absent cause = tt

-- the cause of a refusal of the text
pub text_cause : (old new : DiskView) (name : List ℕ) (read : PartRead) (error : ScheduleError)
    (streamed : IsStreamed old.files name read)
    → (error ≢ schedule_errors.OutOfMemory → first_fault 1 0 (lines_of streamed.bytes) ≡ Some error)
    → HasStreamCause old new name (of_schedule error)
text_cause old new name read schedule_errors.OutOfMemory streamed fault = tt
text_cause old new name read (schedule_errors.BadLine line) streamed fault = record {
  bytes = streamed.bytes;
  text = streamed.text;
  fault_is = fault (λ e. cc e);
  cause = λ e. cc e;
}
text_cause old new name read (schedule_errors.BadSize line) streamed fault = record {
  bytes = streamed.bytes;
  text = streamed.text;
  fault_is = fault (λ e. cc e);
  cause = λ e. cc e;
}
text_cause old new name read (schedule_errors.Decreasing line) streamed fault = record {
  bytes = streamed.bytes;
  text = streamed.text;
  fault_is = fault (λ e. cc e);
  cause = λ e. cc e;
}
text_cause old new name read schedule_errors.TooMany streamed fault = record {
  bytes = streamed.bytes;
  text = streamed.text;
  fault_is = fault (λ e. cc e);
  cause = λ e. cc e;
}

-- the rows that a source sent into a lane were carried through it
pub streamed_lane : (d : Direction) (h : ℕ) (sent rows : List Row) (lane : Lane) → rows ≡ sent
    → AllSent d h sent lane.head → IsDonePath lane.path → HasCarried (entering d h rows) lane
streamed_lane d h sent rows lane is all done = record {
  sent = all.packets ∙ ap (entering d h) (sym is);
  over = all.over;
  done = done;
}

-- the same of both directions
pub streamed_lanes : (h : ℕ) (sent rows : List Row) (lanes : Lanes) → rows ≡ sent
    → ByDirection (λ d head. AllSent d h sent head) lanes.heads → OfBoth IsDonePath lanes.paths
    → ByDirection (λ d lane. HasCarried (entering d h rows) lane) (lanes_of lanes)
streamed_lanes h sent rows lanes is all done = (
  streamed_lane Up h sent rows (lanes_of lanes).up is all.0 done.0,
  streamed_lane Down h sent rows (lanes_of lanes).down is all.1 done.1,
)
