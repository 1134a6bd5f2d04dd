-- Beside Readings, for proofs alone: what a command reads and refuses, in order, and where files lead.
use Rattle.std.specs.Prelude.{Option}
use Rattle.mm_base.specs.Files.{Files}
use Rattle.command_ends.specs.Readings.{Reading, Stop, Reaches}

-- The files lead from one reading to another: where the other ends, the first does.
pub record Leads {A : Type 0} (told : Option Files) (a b : Reading A) : Type 0 where
  pub on : (stop : Stop A) → Reaches told b stop → Reaches told a stop
