-- What was read of a schedule's file.
use Rattle.std.specs.Prelude.{◌≡◌, ◌≤◌, ◌<◌, ◌+◌, ℕ, Option, length}
use mathlib.Core.List.{IsPrefix}
use Rattle.mm_base.specs.Files.{Files}
use Rattle.mm_base.specs.Pieces.{FrontIsRead}
use Rattle.mm_base.specs.inside.Pieces.{PieceIsRead}
use Rattle.packet_record.specs.PartsRead.{HasRead}
use Rattle.shell_workers.specs.declared.schedule_file.ScheduleFile.{ScheduleFile}

-- There is room for a piece, and no more was read than the file has, which is no more than may be read.
abbrev pub IsReading : ScheduleFile → Type 0
IsReading file = (0 < length file.piece.items) × (file.place.at ≤ file.place.size) × (file.place.size ≤ 67108864)

-- The next `read` bytes of the file were read, and its rows go on.
pub record HasReadPiece (told : Option Files) (read : ℕ) (old new : ScheduleFile) : Type 0 where
  pub name : new.place.name.now ≡ old.place.name.now
  pub size : new.place.size ≡ old.place.size
  pub at : new.place.at ≡ old.place.at + read
  pub reading : IsReading new
  pub piece : PieceIsRead HasRead told old.place.name.now old.place.at read old.text new.text
  pub grows : IsPrefix old.text.gathered.rows new.text.gathered.rows

-- The file was read from its first byte on to the place that it is at.
pub record HasReadFront (told : Option Files) (old new : ScheduleFile) : Type 0 where
  pub name : new.place.name.now ≡ old.place.name.now
  pub size : new.place.size ≡ old.place.size
  pub reading : IsReading new
  pub front : FrontIsRead HasRead told old.place.name.now new.place.at old.text new.text

-- The file was read from its first byte to its last one.
abbrev pub HasReadWhole : Option Files → ScheduleFile → ScheduleFile → Type 0
HasReadWhole told old new = FrontIsRead HasRead told old.place.name.now old.place.size old.text new.text
