-- What reading makes of a disk's refusal.
use Rattle.mm_base.specs.declared.errors.DiskError.{DiskError}
use Rattle.mm_base.specs.declared.errors.DiskError.TheVariants as disk_errors
use Rattle.mm_base.specs.declared.errors.LoadError.{LoadError}
use Rattle.mm_base.specs.declared.errors.LoadError.TheVariants as load_errors
use Rattle.command_ends.specs.Causes.{Text}
use Rattle.command_ends.specs.declared.cause.Limit.TheVariants.{File}
use Rattle.command_ends.specs.declared.cause.Refusal.TheVariants.{Absent, Limit}
use Rattle.command_ends.specs.declared.cause.Cause.{Cause}
use Rattle.command_ends.specs.declared.cause.Cause.TheVariants.{Refused, ReadFault, OutOfMemory}

-- why the file of this name isn't read
abbrev pub cause_of_disk : Text → DiskError → Cause
cause_of_disk name disk_errors.Absent = Refused (Absent name)
cause_of_disk name disk_errors.Failed = ReadFault name
cause_of_disk name disk_errors.OutOfMemory = OutOfMemory

-- why it isn't read whole
abbrev pub cause_of_load : Text → LoadError → Cause
cause_of_load name load_errors.Absent = Refused (Absent name)
cause_of_load name load_errors.Failed = ReadFault name
cause_of_load name load_errors.OutOfMemory = OutOfMemory
cause_of_load name (load_errors.TooLong size) = Refused (Limit (File name))
